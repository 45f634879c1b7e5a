-- What a scan answers.
use Rattle.std.specs.Prelude.{◌≡◌, ◌≤◌, ⊤, ℕ, List, length, Result, Ok, Err}
use Rattle.report_form.specs.declared.report.Report.{Report}
use Rattle.rule_files.specs.declared.rule_file.RuleFile.{RuleFile}
use Rattle.running_rules.specs.Running.{running}
use Rattle.scan_session.specs.declared.fault.ScanFault.{ScanFault}
use Rattle.scan_session.specs.declared.fault.ScanFault.TheVariants.{Memory, TooMany}
use Rattle.scan_session.specs.Sets.{HasMore}
use Rattle.scan_session.specs.Reports.{reported_cmp}
use Rattle.scan_session.specs.Quieted.{Grammars}
use Rattle.scan_session.specs.Fresh.{IsFresh, IsResult}
use Rattle.scan_session.specs.Shown.{File}

-- the report of a fresh scan of the files by the rule files, with no more findings than are wanted, and the only one
pub record IsReported (grammars : Grammars) (refused : List (List ℕ)) (rules : List RuleFile) (most : ℕ) (files : List File) (report : Report) : Type 0 where
  pub fresh : IsFresh grammars refused files rules report
  pub few : length report.results ≤ most
  pub only : (other : Report) → IsFresh grammars refused files rules other → other ≡ report

-- it has more findings than are wanted
pub record AreMany (grammars : Grammars) (refused : List (List ℕ)) (rules : List RuleFile) (most : ℕ) (files : List File) (told : ℕ) : Type 0 where
  pub told_is : told ≡ most
  pub more : HasMore reported_cmp (IsResult grammars (running refused rules) files) most

-- a scan answers the report, or that it would have too many findings, or else memory was wanting
abbrev pub TellsReport : Grammars → List (List ℕ) → List RuleFile → ℕ → List File → Result Report ScanFault → Type 0
TellsReport grammars refused rules most files (Ok report) = IsReported grammars refused rules most files report
TellsReport grammars refused rules most files (Err Memory) = ⊤
TellsReport grammars refused rules most files (Err (TooMany n)) = AreMany grammars refused rules most files n
