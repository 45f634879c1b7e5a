-- What a scan answers.
use Rattle.std.proofs.Common.{◌≡◌, ◌≤◌, ℕ, List, length, refl, sym, subst}
use Rattle.std.specs.Prelude.{Result, Ok, Err, IfOk}
use Rattle.scan_world.specs.Files.{Files}
use Rattle.report_form.specs.declared.report.Report.{Report}
use Rattle.rule_files.specs.declared.rule_file.RuleFile.{RuleFile}
use Rattle.rule_map.specs.RuleMap.{AreRuleFiles}
use Rattle.running_rules.specs.Running.{running}
use Rattle.scan_session.specs.declared.fault.ScanFault.{ScanFault}
use Rattle.scan_session.specs.declared.fault.ScanFault.TheVariants.{Memory, TooMany}
use Rattle.scan_session.specs.Sets.{HasMore}
use Rattle.scan_session.specs.Reports.{reported_cmp}
use Rattle.scan_session.specs.Quieted.{Grammars}
use Rattle.scan_session.specs.Fresh.{IsFresh, IsResult}
use Rattle.scan_session.specs.Shown.{File}
use Rattle.seen_files.specs.declared.seen.SeenFiles.{SeenFiles}
use Rattle.workspace.specs.Reports.{Readings, IsReport, HasMoreResults}
use Rattle.workspace.specs.Work.{Works}
use Rattle.session.specs.Reporting.{TellsReport}

module _ (grammars : Grammars) (refused : List (List ℕ)) (rules : List RuleFile) (most : ℕ) (files : List File) where
  -- what is said of an answer one by one
  pub tells : (r : Result Report ScanFault) → IfOk r (IsFresh grammars refused files rules) → IfOk r (λ report. length report.results ≤ most)
      → ((n : ℕ) → r ≡ Err (TooMany n) → (n ≡ most) × HasMore reported_cmp (IsResult grammars (running refused rules) files) most)
      → IfOk r (λ report. (other : Report) → IsFresh grammars refused files rules other → other ≡ report) → TellsReport grammars refused rules most files r
  tells (Ok report) fresh few many only = record { fresh = fresh; few = few; only = only }
  tells (Err Memory) fresh few many only = tt
  tells (Err (TooMany n)) fresh few many only = let m = many n refl in record { told_is = m.0; more = m.1 }

  pub tells_fault : (fault : ScanFault) → fault ≡ Memory → TellsReport grammars refused rules most files (Err fault)
  tells_fault fault e = let P : ScanFault → Type 0 = λ f. TellsReport grammars refused rules most files (Err f) in let none : P Memory = tt in subst P (sym e) none

module _ (readings : Readings) (refused : List (List ℕ)) (files rules : Files) (most : ℕ) (old new : SeenFiles) (before after : ℕ) where
  -- the rule files that were read, if there is an answer
  abbrev pub Worked : Result Report ScanFault → Type 0
  Worked r = (r ≡ Err Memory → ⊥) → Works readings refused files rules old new before after

  -- whatever the rule files are, this is the answer
  abbrev pub Tells : Result Report ScanFault → Type 0
  Tells r = (contents : List RuleFile) → AreRuleFiles readings.writes rules contents → TellsReport readings.grammars refused contents most files r

  pub told_report : (r : Result Report ScanFault) → Worked r → Tells r → IfOk r (IsReport readings refused files rules)
  told_report (Ok report) work answers = let w = work (λ e. absurd cc) in record { contents = w.contents; are = w.are; fresh = (answers w.contents w.are).fresh }
  told_report (Err fault) work answers = tt

  pub told_few : (r : Result Report ScanFault) → Worked r → Tells r → IfOk r (λ report. length report.results ≤ most)
  told_few (Ok report) work answers = let w = work (λ e. absurd cc) in (answers w.contents w.are).few
  told_few (Err fault) work answers = tt

  pub told_only : (r : Result Report ScanFault) → Tells r → IfOk r (λ report. (other : Report) → IsReport readings refused files rules other → other ≡ report)
  told_only (Ok report) answers = λ other is. (answers is.contents is.are).only other is.fresh
  told_only (Err fault) answers = tt

  pub told_many : (r : Result Report ScanFault) → Worked r → Tells r → (n : ℕ) → r ≡ Err (TooMany n) → (n ≡ most) × HasMoreResults readings refused files rules n
  told_many r work answers n e =
      let P : Result Report ScanFault → Type 0 = Worked in
      let Q : Result Report ScanFault → Type 0 = Tells in
      let w = subst P e work (λ f. absurd cc) in
      let m = subst Q e answers w.contents w.are in
      let H : ℕ → Type 0 = λ k. HasMoreResults readings refused files rules k in
      (m.told_is, subst H (sym m.told_is) (record { contents = w.contents; are = w.are; more = m.more }))
