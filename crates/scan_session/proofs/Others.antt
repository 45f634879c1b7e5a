-- A file, or an entry that is no rule, changes no finding of another.
use Rattle.std.proofs.Common.{◌≡◌, ◌⊎◌, inl, inr, ℕ, suc, Bool, true, false, List, [], ◌∷◌, ◌++◌, map, refl, sym, ap, ◌∙◌, subst}
use Rattle.std.specs.Prelude.{if◌then◌else◌}
use Rattle.std.proofs.lemmas.List.{map-append}
use Rattle.rule_form.specs.declared.rule.Rule.{Rule}
use Rattle.rule_entries.specs.declared.outcome.RuleFault.{RuleFault}
use Rattle.rule_entries.specs.declared.outcome.RuleOutcome.{RuleOutcome}
use Rattle.rule_entries.specs.declared.outcome.RuleOutcome.TheVariants.{Good, Bad}
use Rattle.node_match.specs.Sets.{Among}
use Rattle.report_form.specs.declared.report.Report.{Report}
use Rattle.report_form.specs.declared.report.Reported.{Reported}
use Rattle.rule_files.specs.declared.rule_file.RuleFile.{RuleFile}
use Rattle.rule_files.specs.RuleFiles.{outcomes_of}
use Rattle.file_results.specs.Sets.{IsExactly}
use Rattle.file_results.specs.Reports.{reported_cmp}
use Rattle.running_rules.specs.Running.{Stated, stated_at, stated_from, stated, is_taken, has_refused, firsts, built, running}
use Rattle.running_rules.specs.Taking.{firsts_after}
use Rattle.running_rules.proofs.Repeats.{firsts_are}
use Rattle.file_results.specs.Quieted.{Grammars}
use Rattle.scan_session.specs.Fresh.{IsResult, IsFresh}
use Rattle.file_results.specs.Shown.{File, IsResultIn}
use Rattle.file_results.specs.HitOrder.{reported_total}
use Rattle.scan_session.specs.Others.{file_of, KeepsOtherFiles, KeepsOtherRules}
use Rattle.file_results.proofs.Orders.{exactly_once}
use Rattle.scan_session.proofs.Scans.{path_of}

-- ---- one file more

one_of : (before after : List File) (file other : File) → Among (before ++ file ∷ after) other → (file ≡ other) ⊎ Among (before ++ after) other
one_of [] after file other h = h
one_of (b ∷ bs) after file other (inl e) = inr (inl e)
one_of (b ∷ bs) after file other (inr h) = elim (one_of bs after file other h) [ inl e ↦ inl e | inr k ↦ inr (inr k) ]

still_there : (before after : List File) (file other : File) → Among (before ++ after) other → Among (before ++ file ∷ after) other
still_there [] after file other h = inr h
still_there (b ∷ bs) after file other (inl e) = inl e
still_there (b ∷ bs) after file other (inr h) = inr (still_there bs after file other h)

-- whatever a file holds, the findings of other paths are those of a scan without it
pub other_files : (grammars : Grammars) (refused : List (List ℕ)) (files : List File) (rule_files : List RuleFile) (more : Report) → IsFresh grammars refused files rule_files more → KeepsOtherFiles grammars refused files rule_files more
other_files grammars refused files rule_files more a before after file less e b r apart = (
  λ h. let f = (whole.exact r).0 h in
      elim (one_of before after file f.0 f.1) [
        | inl e ↦ absurd (apart (path_of grammars (running refused rule_files) f.0 r f.2 ∙ ap (λ (x : File). x.0) (sym e)))
        | inr k ↦ (b.results.exact r).1 (f.0, k, f.2)
      ],
  λ h. let f = (b.results.exact r).0 h in (whole.exact r).1 (f.0, still_there before after file f.0 f.1, f.2),
)
  where
    whole : IsExactly reported_cmp (IsResult grammars (running refused rule_files) (before ++ file ∷ after)) more.results
    whole = let P : List File → Type 0 = λ fs. IsExactly reported_cmp (IsResult grammars (running refused rule_files) fs) more.results in subst P e a.results

-- ---- one entry more that is no rule

abbrev rule_of : Stated → Rule
rule_of s = s.rule

-- the good rules of one file
abbrev stated_in : RuleFile → List Stated
stated_in f = stated_from f.name 0 (outcomes_of f.content)

-- the rules of good entries
abbrev good_rules : List RuleOutcome → List Rule
good_rules [] = []
good_rules (Good rule ∷ os) = rule ∷ good_rules os
good_rules (Bad fault ∷ os) = good_rules os

-- those that run, where these ids are taken before
abbrev run_from : List (List ℕ) → List (List ℕ) → List Rule → List Rule
run_from refused taken [] = []
run_from refused taken (r ∷ rs) = if is_taken taken r.id then run_from refused taken rs else (if has_refused refused r then run_from refused (r.id ∷ taken) rs else r ∷ run_from refused (r.id ∷ taken) rs)

-- one rule after those that are taken up
step : (refused : List (List ℕ)) (repeated : Bool) (s : Stated) (later after : List Stated) → built refused (if repeated then later else s ∷ after) ≡ (if repeated then built refused later else (if has_refused refused s.rule then built refused after else s.rule ∷ built refused after))
step refused true s later after = refl
step refused false s later after = refl

runs : (refused taken : List (List ℕ)) (ss : List Stated) → built refused (firsts_after taken ss) ≡ run_from refused taken (map rule_of ss)
runs refused taken [] = refl
runs refused taken (s ∷ ss) =
    let more = s.rule.id ∷ taken in
    let later = runs refused taken ss in
    let after = runs refused more ss in
    let F : List Rule → List Rule → List Rule = λ x y. if is_taken taken s.rule.id then x else (if has_refused refused s.rule then y else s.rule ∷ y) in
    step refused (is_taken taken s.rule.id) s (firsts_after taken ss) (firsts_after more ss) ∙ ap (λ (x : List Rule). F x (built refused (firsts_after more ss))) later ∙ ap (λ (y : List Rule). F (run_from refused taken (map rule_of ss)) y) after

all_run : (refused : List (List ℕ)) (ss : List Stated) → built refused (firsts ss) ≡ run_from refused [] (map rule_of ss)
all_run refused ss = ap (built refused) (firsts_are ss) ∙ runs refused [] ss

rules_at : (file : List ℕ) (k : ℕ) (o : RuleOutcome) (os : List RuleOutcome) → map rule_of (stated_at file k o) ++ good_rules os ≡ good_rules (o ∷ os)
rules_at file k (Good rule) os = refl
rules_at file k (Bad fault) os = refl

rules_from : (file : List ℕ) (k : ℕ) (os : List RuleOutcome) → map rule_of (stated_from file k os) ≡ good_rules os
rules_from file k [] = refl
rules_from file k (o ∷ os) =
    map-append rule_of (stated_at file k o) (stated_from file (suc k) os) ∙ ap (λ (l : List Rule). map rule_of (stated_at file k o) ++ l) (rules_from file (suc k) os) ∙ rules_at file k o os

past_bad : (os ps : List RuleOutcome) (fault : RuleFault) → good_rules (os ++ Bad fault ∷ ps) ≡ good_rules (os ++ ps)
past_bad [] ps fault = refl
past_bad (Good rule ∷ os) ps fault = ap (λ (l : List Rule). rule ∷ l) (past_bad os ps fault)
past_bad (Bad other ∷ os) ps fault = past_bad os ps fault

-- the good rules of a list of rule files are those of another, where one file is replaced by one with the same
same_rules : (before after : List RuleFile) (f g : RuleFile) → map rule_of (stated_in f) ≡ map rule_of (stated_in g) → map rule_of (stated (before ++ f ∷ after)) ≡ map rule_of (stated (before ++ g ∷ after))
same_rules [] after f g e =
    map-append rule_of (stated_in f) (stated after) ∙ ap (λ (l : List Rule). l ++ map rule_of (stated after)) e ∙ sym (map-append rule_of (stated_in g) (stated after))
same_rules (b ∷ bs) after f g e =
    map-append rule_of (stated_in b) (stated (bs ++ f ∷ after)) ∙ ap (λ (l : List Rule). map rule_of (stated_in b) ++ l) (same_rules bs after f g e) ∙ sym (map-append rule_of (stated_in b) (stated (bs ++ g ∷ after)))

same_running : (refused : List (List ℕ)) (before after : List RuleFile) (f g : RuleFile) → map rule_of (stated_in f) ≡ map rule_of (stated_in g) → running refused (before ++ f ∷ after) ≡ running refused (before ++ g ∷ after)
same_running refused before after f g e =
    all_run refused (stated (before ++ f ∷ after)) ∙ ap (λ (l : List Rule). run_from refused [] l) (same_rules before after f g e) ∙ sym (all_run refused (stated (before ++ g ∷ after)))

same_entries : (name : List ℕ) (os ps : List RuleOutcome) (fault : RuleFault) → map rule_of (stated_from name 0 (os ++ Bad fault ∷ ps)) ≡ map rule_of (stated_from name 0 (os ++ ps))
same_entries name os ps fault = rules_from name 0 (os ++ Bad fault ∷ ps) ∙ past_bad os ps fault ∙ sym (rules_from name 0 (os ++ ps))

-- the findings are those of the rule files without the entry
pub other_rules : (grammars : Grammars) (refused : List (List ℕ)) (files : List File) (rule_files : List RuleFile) (more : Report) → IsFresh grammars refused files rule_files more → KeepsOtherRules grammars refused files rule_files more
other_rules grammars refused files rule_files more a before after name os ps fault less e b =
    let same = ap (λ (rs : List RuleFile). running refused rs) e ∙ same_running refused before after (file_of name (os ++ Bad fault ∷ ps)) (file_of name (os ++ ps)) (same_entries name os ps fault) in
    let P : List Rule → Type 0 = λ l. IsExactly reported_cmp (IsResult grammars l files) more.results in
    exactly_once reported_cmp reported_total (IsResult grammars (running refused (before ++ file_of name (os ++ ps) ∷ after)) files) more.results less.results (subst P same a.results) b.results
