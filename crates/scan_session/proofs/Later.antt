-- Texts that are refused later change no report by rules whose texts were decided before.
use Rattle.std.proofs.Common.{◌≡◌, ◌⊎◌, inl, inr, ◌↔◌, ℕ, Bool, true, false, List, [], ◌∷◌, ◌++◌, map, refl, sym, ap, ◌∙◌, subst}
use Rattle.std.specs.Prelude.{◌||◌, if◌then◌else◌}
use Rattle.std.specs.List.{list_any, flat_map}
use Rattle.report_form.specs.declared.notice.Notice.{Notice}
use Rattle.report_form.specs.declared.notice.NoticeKind.TheVariants as kinds
use Rattle.report_form.specs.declared.report.Report.{Report}
use Rattle.rule_form.specs.declared.rule.Rule.{Rule}
use Rattle.rule_files.specs.declared.rule_file.RuleFile.{RuleFile}
use Rattle.node_match.specs.Sets.{Among}
use Rattle.decided_texts.specs.Decided.{Decisions, AreDecided, AreUndecided}
use Rattle.decided_texts.proofs.Later.{same_refused}
use Rattle.file_results.specs.Sets.{IsExactly}
use Rattle.running_rules.specs.Notes.{notice, notice_cmp}
use Rattle.running_rules.specs.Running.{Stated, stated, texts_of, is_taken, is_refused, has_refused, built, running, refused_notices, first_notices, repeat_notice, option_notice, file_notices, rule_notices}
use Rattle.running_rules.specs.Taking.{firsts_after, notices_after}
use Rattle.file_results.specs.Reports.{reported_cmp}
use Rattle.file_results.specs.Quieted.{Grammars}
use Rattle.scan_session.specs.Fresh.{IsResult, IsFileNotice, IsFresh}
use Rattle.file_results.specs.Shown.{File}
use Rattle.running_rules.proofs.Repeats.{firsts_are, notices_are}
use Rattle.running_rules.proofs.Members.{among_left, among_right}

-- ---- lists of refused texts that refuse the same of some texts

module _ (q r : List (List ℕ)) where
  abbrev pub Agree : List (List ℕ) → Type 0
  Agree texts = (text : List ℕ) → Among texts text → is_refused q text ≡ is_refused r text

  any_same : (texts : List (List ℕ)) → Agree texts → list_any (is_refused q) texts ≡ list_any (is_refused r) texts
  any_same [] same = refl
  any_same (t ∷ ts) same = ap (λ (b : Bool). b || list_any (is_refused q) ts) (same t (inl refl)) ∙ ap (λ (b : Bool). is_refused r t || b) (any_same ts (λ text h. same text (inr h)))

  run_same : (repeated : Bool) (s : Stated) (later after : List Stated) → has_refused q s.rule ≡ has_refused r s.rule → built q later ≡ built r later → built q after ≡ built r after
      → built q (if repeated then later else s ∷ after) ≡ built r (if repeated then later else s ∷ after)
  run_same true s later after one e f = e
  run_same false s later after one e f = ap (λ (b : Bool). if b then built q after else s.rule ∷ built q after) one ∙ ap (λ (rs : List Rule). if has_refused r s.rule then rs else s.rule ∷ rs) f

  runs_same : (taken : List (List ℕ)) (ss : List Stated) → Agree (texts_of ss) → built q (firsts_after taken ss) ≡ built r (firsts_after taken ss)
  runs_same taken [] same = refl
  runs_same taken (s ∷ ss) same =
      let rest : Agree (texts_of ss) = λ text h. same text (among_right s.rule.texts (texts_of ss) text h) in
      run_same (is_taken taken s.rule.id) s (firsts_after taken ss) (firsts_after (s.rule.id ∷ taken) ss) (any_same s.rule.texts (λ text h. same text (among_left s.rule.texts (texts_of ss) text h)))
      (runs_same taken ss rest) (runs_same (s.rule.id ∷ taken) ss rest)

  texts_noted : (file id : List ℕ) (texts : List (List ℕ)) → Agree texts → flat_map (refused_notices q file id) texts ≡ flat_map (refused_notices r file id) texts
  texts_noted file id [] same = refl
  texts_noted file id (t ∷ ts) same =
      ap (λ (b : Bool). (if b then notice file id kinds.Regex t ∷ [] else []) ++ flat_map (refused_notices q file id) ts) (same t (inl refl))
      ∙ ap (λ (ns : List Notice). refused_notices r file id t ++ ns) (texts_noted file id ts (λ text h. same text (inr h)))

  note_same : (repeated : Bool) (s : Stated) (later later' after after' : List Notice) → first_notices q s ≡ first_notices r s → later ≡ later' → after ≡ after'
      → (if repeated then repeat_notice s ∷ later else first_notices q s ++ after) ≡ (if repeated then repeat_notice s ∷ later' else first_notices r s ++ after')
  note_same true s later later' after after' one e f = ap (λ (ns : List Notice). repeat_notice s ∷ ns) e
  note_same false s later later' after after' one e f = ap (λ (ns : List Notice). ns ++ after) one ∙ ap (λ (ns : List Notice). first_notices r s ++ ns) f

  notes_same : (taken : List (List ℕ)) (ss : List Stated) → Agree (texts_of ss) → notices_after q taken ss ≡ notices_after r taken ss
  notes_same taken [] same = refl
  notes_same taken (s ∷ ss) same =
      let rest : Agree (texts_of ss) = λ text h. same text (among_right s.rule.texts (texts_of ss) text h) in
      let own = texts_noted s.file s.rule.id s.rule.texts (λ text h. same text (among_left s.rule.texts (texts_of ss) text h)) in
      note_same (is_taken taken s.rule.id) s (notices_after q taken ss) (notices_after r taken ss) (notices_after q (s.rule.id ∷ taken) ss) (notices_after r (s.rule.id ∷ taken) ss)
      (ap (λ (ns : List Notice). map (option_notice s.file s.rule.id) s.rule.unread ++ ns) own) (notes_same taken ss rest) (notes_same (s.rule.id ∷ taken) ss rest)

-- ---- refusals that come later

module _ (d : Decisions) (more : List (List ℕ)) (rule_files : List RuleFile) (new : AreUndecided d more) (decided : AreDecided d (texts_of (stated rule_files))) where
  agree : Agree (d.refused ++ more) d.refused (texts_of (stated rule_files))
  agree text h = same_refused d more new text (decided text h)

  -- the same rules run
  pub same_running : running (d.refused ++ more) rule_files ≡ running d.refused rule_files
  same_running =
      ap (built (d.refused ++ more)) (firsts_are (stated rule_files)) ∙ runs_same (d.refused ++ more) d.refused [] (stated rule_files) agree ∙ sym (ap (built d.refused) (firsts_are (stated rule_files)))

  -- the rule files have the same notices
  pub same_notices : rule_notices (d.refused ++ more) rule_files ≡ rule_notices d.refused rule_files
  same_notices =
      ap (λ (ns : List Notice). flat_map file_notices rule_files ++ ns)
      (notices_are (d.refused ++ more) (stated rule_files) ∙ notes_same (d.refused ++ more) d.refused [] (stated rule_files) agree ∙ sym (notices_are d.refused (stated rule_files)))

  -- a fresh scan reports the same
  pub same_fresh : (grammars : Grammars) (files : List File) (report : Report) → IsFresh grammars (d.refused ++ more) files rule_files report ↔ IsFresh grammars d.refused files rule_files report
  same_fresh grammars files report =
      let Results : List Rule → Type 0 = λ rules. IsExactly reported_cmp (IsResult grammars rules files) report.results in
      let Notices : List Notice → List Rule → Type 0 = λ ns rules. IsExactly notice_cmp (λ n. Among ns n ⊎ IsFileNotice grammars rules files n) report.notices in
      let all = d.refused ++ more in
      let Rules : List Rule → Type 0 = λ rules. Notices (rule_notices all rule_files) rules in
      let Told : List Notice → Type 0 = λ ns. Notices ns (running d.refused rule_files) in (
        λ h. record { results = subst Results same_running h.results; notices = subst Told same_notices (subst Rules same_running h.notices) },
        λ h. record { results = subst Results (sym same_running) h.results; notices = subst Rules (sym same_running) (subst Told (sym same_notices) h.notices) },
      )
