-- What fixes make of the files of a session.
use Rattle.std.proofs.Common.{◌≡◌, ◌≤◌, ℕ, zero, List, [], ◌∷◌, length, map, refl, sym, ap, ◌∙◌, subst}
use Rattle.std.specs.Prelude.{Result, Ok, Err, IfOk, Option, None, Some}
use Rattle.scan_world.specs.Files.{Files}
use Rattle.file_map.specs.declared.limit.LimitKind.{LimitKind}
use Rattle.file_map.specs.FileMap.{File, front}
use Rattle.file_map.specs.Sync.{with_files}
use Rattle.fix_apply.specs.declared.fixed.FixedFile.{FixedFile}
use Rattle.fix_apply.specs.declared.fixed.FixReport.{FixReport}
use Rattle.report_form.specs.declared.report.Report.{Report}
use Rattle.workspace.specs.declared.fault.FixFault.{FixFault}
use Rattle.workspace.specs.declared.fault.FixFault.TheVariants as faults
use Rattle.workspace.specs.Reports.{Readings, IsReport}
use Rattle.workspace.specs.Fixes.{AreFixed, IsFixReport, FixesPass, put_of, files_fixed}
use Rattle.workspace.proofs.Once.{fixed_once}
use Rattle.session.specs.Sessions.{FixesOver, text_of}

puts_are : (fixed : List FixedFile) → map front (map text_of fixed) ≡ map put_of fixed
puts_are [] = refl
puts_are (f ∷ fs) = ap (λ (l : List File). put_of f ∷ l) (puts_are fs)

-- the texts of the changed files are put as the files are after the fixes
pub texts_put : (old files : Files) (texts : List File) (fixed : List FixedFile) → files ≡ old → texts ≡ map text_of fixed → with_files files (map front texts) ≡ files_fixed old fixed
texts_put old files texts fixed same e =
    ap (λ (fs : Files). with_files fs (map front texts)) same ∙ ap (λ (ts : List File). with_files old (map front ts)) e ∙ ap (with_files old) (puts_are fixed)

-- what was fixed by a report is a report of fixes
module _ (readings : Readings) (refused : List (List ℕ)) (files rules : Files) (report : Report) where
  pub fix_report : (r : Result FixReport FixFault) → IfOk r (λ f. f.report ≡ report) → IfOk r (λ f. AreFixed report.results files f.files) → IsReport readings refused files rules report → IfOk r (IsFixReport readings refused files rules)
  fix_report (Ok f) same are is =
      let P : Report → Type 0 = λ o. IsReport readings refused files rules o in
      let Q : Report → Type 0 = λ o. AreFixed o.results files f.files in
      record { report = subst P (sym same) is; fixes = subst Q (sym same) are }
  fix_report (Err e) same are is = tt

  pub fix_few : (most : ℕ) (r : Result FixReport FixFault) → IfOk r (λ f. f.report ≡ report) → length report.results ≤ most → IfOk r (λ f. length f.report.results ≤ most)
  fix_few most (Ok f) same few = let P : Report → Type 0 = λ o. length o.results ≤ most in subst P (sym same) few
  fix_few most (Err e) same few = tt

  -- where the report is the only one, what its fixes make of the files is one thing
  pub fix_only : (r : Result FixReport FixFault) → IfOk r (λ f. f.report ≡ report) → IfOk r (λ f. AreFixed report.results files f.files) → ((o : Report) → IsReport readings refused files rules o → o ≡ report)
      → IfOk r (λ f. (o : FixReport) → IsFixReport readings refused files rules o → o ≡ f)
  fix_only (Ok f) same are one = λ o is.
      let P : Report → Type 0 = λ x. AreFixed x.results files o.files in
      let u : Report → FixReport = λ x. record { report = x; files = o.files } in
      let v : List FixedFile → FixReport = λ fs. record { report = f.report; files = fs } in
      let same_report = one o.report is.report in
      ap u (same_report ∙ sym same) ∙ ap v (fixed_once report.results files f.files o.files are (subst P same_report is.fixes))
  fix_only (Err e) same are one = tt

  pub fix_over : (most : ℕ) (kind : LimitKind) (n : ℕ) → IsReport readings refused files rules report → length report.results ≤ most → FixesOver report.results files kind n → FixesPass readings refused files rules most kind n
  fix_over most kind n is few (fixed, are, over) = record { fixed = record { report = report; files = fixed }; is = record { report = is; fixes = are }; few = few; passes = over }

-- what a fault tells
abbrev pub most_of : {X : Type 0} → Result X FixFault → ℕ
most_of (Ok x) = zero
most_of (Err faults.Memory) = zero
most_of (Err (faults.TooMany n)) = n
most_of (Err (faults.OverLimit kind n)) = zero

abbrev pub limit_of : {X : Type 0} → Result X FixFault → Option (LimitKind × ℕ)
limit_of (Ok x) = None
limit_of (Err faults.Memory) = None
limit_of (Err (faults.TooMany n)) = None
limit_of (Err (faults.OverLimit kind n)) = Some (kind, n)
