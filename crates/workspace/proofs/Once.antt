-- Where each rule file is one thing, what is reported and what fixes make of it is one thing.
use Rattle.std.proofs.Common.{◌≡◌, ◌⊎◌, inl, inr, ℕ, ◌≤◌, List, [], ◌∷◌, ◌++◌, length, refl, sym, ap, ◌∙◌, subst}
use Rattle.scan_world.specs.Files.{Files}
use Rattle.file_map.specs.FileMap.{File}
use Rattle.rule_files.specs.declared.rule_file.RuleFile.{RuleFile}
use Rattle.report_form.specs.declared.edit.Edit.{Edit}
use Rattle.report_form.specs.declared.report.Report.{Report}
use Rattle.report_form.specs.declared.report.Reported.{Reported}
use Rattle.fix_apply.specs.declared.fixed.FixedFile.{FixedFile}
use Rattle.fix_apply.specs.declared.fixed.FixReport.{FixReport}
use Rattle.fix_apply.specs.Applied.{applied}
use Rattle.fix_apply.specs.Choices.{AreTaken, AreChosen, offers}
use Rattle.fix_apply.specs.Order.{results_at}
use Rattle.scan_session.specs.Fresh.{IsFresh}
use Rattle.scan_session.proofs.Laws.{fresh_once, exclusive}
use Rattle.workspace.specs.Reports.{Readings, IsReport, HasMoreResults, AreReadOnce}
use Rattle.workspace.specs.Fixes.{IsFixed, AreFixed, IsFixReport}

-- ---- fixes

pub taken_once : (before es a b : List Edit) → AreTaken before es a → AreTaken before es b → b ≡ a
taken_once before [] a b h k = k ∙ sym h
taken_once before (e ∷ es) a b (inl (free, (rest, is, r))) (inl (free', (rest', is', r'))) = is' ∙ ap (λ (l : List Edit). e ∷ l) (taken_once (before ++ e ∷ []) es rest rest' r r') ∙ sym is
taken_once before (e ∷ es) a b (inl (free, _)) (inr (nay, _)) = absurd (nay free)
taken_once before (e ∷ es) a b (inr (nay, _)) (inl (free, _)) = absurd (nay free)
taken_once before (e ∷ es) a b (inr (nay, r)) (inr (nay', r')) = taken_once before es a b r r'

fixed_one : (results : List Reported) (file : File) (x y : FixedFile) → IsFixed results file x → IsFixed results file y → y ≡ x
fixed_one results file x y h k =
    let edits : y.edits ≡ x.edits = taken_once [] (offers (results_at file.0 results)) x.edits y.edits h.chosen k.chosen in
    let f : List ℕ → FixedFile = λ p. record { path = p; edits = y.edits; whole = y.whole } in
    let g : List Edit → FixedFile = λ es. record { path = x.path; edits = es; whole = y.whole } in
    let w : List ℕ → FixedFile = λ t. record { path = x.path; edits = x.edits; whole = t } in
    ap f (k.path ∙ sym h.path) ∙ ap g edits ∙ ap w (k.whole ∙ ap (applied file.1) edits ∙ sym h.whole)

unlike : (results : List Reported) (file : File) (x : FixedFile) → AreChosen file.0 results [] → IsFixed results file x → ⊥
unlike results file x none h = h.some (taken_once [] (offers (results_at file.0 results)) [] x.edits none h.chosen)

pub fixed_once : (results : List Reported) (files : Files) (xs ys : List FixedFile) → AreFixed results files xs → AreFixed results files ys → ys ≡ xs
fixed_once results [] xs ys h k = k ∙ sym h
fixed_once results (file ∷ files) xs ys (inl (none, r)) (inl (none', r')) = fixed_once results files xs ys r r'
fixed_once results (file ∷ files) xs ys (inl (none, _)) (inr (y, is, _)) = absurd (unlike results file y none is)
fixed_once results (file ∷ files) xs ys (inr (x, is, _)) (inl (none, _)) = absurd (unlike results file x none is)
fixed_once results (file ∷ files) xs ys (inr (x, is, (rest, e, r))) (inr (y, is', (rest', e', r'))) =
    e' ∙ ap (λ (l : List FixedFile). y ∷ l) (fixed_once results files rest rest' r r') ∙ ap (λ (f : FixedFile). f ∷ rest) (fixed_one results file x y is is') ∙ sym e

-- ---- reports

module _ (readings : Readings) (refused : List (List ℕ)) (files rules : Files) (one : AreReadOnce readings.writes rules) where
  pub report_once : (r s : Report) → IsReport readings refused files rules r → IsReport readings refused files rules s → s ≡ r
  report_once r s h k =
      let P : List RuleFile → Type 0 = λ c. IsFresh readings.grammars refused files c s in
      fresh_once readings.grammars refused files h.contents s r (subst P (one h.contents k.contents h.are k.are) k.fresh) h.fresh

  pub fix_report_once : (f g : FixReport) → IsFixReport readings refused files rules f → IsFixReport readings refused files rules g → g ≡ f
  fix_report_once f g h k =
      let same : g.report ≡ f.report = report_once f.report g.report h.report k.report in
      let P : Report → Type 0 = λ r. AreFixed r.results files g.files in
      let u : Report → FixReport = λ r. record { report = r; files = g.files } in
      let v : List FixedFile → FixReport = λ fs. record { report = f.report; files = fs } in
      ap u same ∙ ap v (fixed_once f.report.results files f.files g.files h.fixes (subst P same k.fixes))

  -- there are not both a report within the limit and more findings than that
  pub not_more : (r : Report) (most : ℕ) → IsReport readings refused files rules r → length r.results ≤ most → HasMoreResults readings refused files rules most → ⊥
  not_more r most h few k =
      let P : List RuleFile → Type 0 = λ c. IsFresh readings.grammars refused files c r in
      exclusive readings.grammars refused files k.contents most r (subst P (one k.contents h.contents k.are h.are) h.fresh) few k.more
