-- What `scan` and `fix` do over a folder: how they end, and the line that they print.
use Rattle.std.specs.Prelude.{◌≡◌, ◌≤◌, ℕ, Bool, true, None, List, [], ◌∷◌, length, if◌then◌else◌}
use Rattle.file_map.specs.FileMap.{over_limit}
use Rattle.file_map.specs.declared.limit.LimitKind.{LimitKind}
use Rattle.report_form.specs.declared.report.Report.{Report}
use Rattle.report_form.specs.declared.report.Reported.{Reported}
use Rattle.fix_apply.specs.declared.fixed.FixedFile.{FixedFile}
use Rattle.fix_apply.specs.declared.fixed.FixReport.{FixReport}
use Rattle.run_status.specs.declared.status.Status.{Status}
use Rattle.run_status.specs.declared.status.Status.TheVariants.{Done, Findings, TooMany, OverLimit}
use Rattle.wire_words.specs.Commands.{Task}
use Rattle.stream_run.specs.Reports.{IsReport, HasMoreResults}
use Rattle.stream_run.specs.Fixes.{IsFixReport, FixesPass, files_fixed}
use Rattle.stream_run.specs.Printed.{report_line, fix_line}
use Rattle.stream_run.specs.Doing.{Setting, Shelves}
use Rattle.folder_run.specs.Taking.{Takes, TakesNone}

-- findings show in the status where the flag asks for that
abbrev pub status_of : Bool → List Reported → Status
status_of true (finding ∷ findings) = Findings
status_of _ _ = Done

-- the files under the task's prefix and the rules at the path of its config
abbrev pub TakesFor : Setting → Task → Shelves → Type 0
TakesFor s task shelves = Takes s.readings s.told task.config task.prefix shelves

-- How a scan of a folder ends, and the line that it prints.
pub data ScanEnds (s : Setting) (task : Task) : Status → List (List ℕ) → Type 0 where
  none : (status : Status) → TakesNone s.readings s.told task.config task.prefix status → ScanEnds s task status []
  too_many : (shelves : Shelves) → TakesFor s task shelves → HasMoreResults s.readings s.refused shelves.files shelves.rules s.most → ScanEnds s task (TooMany s.most) []
  reported : (shelves : Shelves) (report : Report) → TakesFor s task shelves → IsReport s.readings s.refused shelves.files shelves.rules report → length report.results ≤ s.most
      → ScanEnds s task (status_of task.flag report.results) (report_line report ∷ [])

-- How fixing a folder ends, the line that it prints, and the changed files that it writes: none where the flag asks for a dry run.
pub data FixEnds (s : Setting) (task : Task) : Status → List (List ℕ) → List FixedFile → Type 0 where
  none : (status : Status) → TakesNone s.readings s.told task.config task.prefix status → FixEnds s task status [] []
  too_many : (shelves : Shelves) → TakesFor s task shelves → HasMoreResults s.readings s.refused shelves.files shelves.rules s.most → FixEnds s task (TooMany s.most) [] []
  over : (shelves : Shelves) (kind : LimitKind) (n : ℕ) → TakesFor s task shelves → FixesPass s.readings s.refused shelves.files shelves.rules s.most kind n → FixEnds s task (OverLimit kind n) [] []
  fixed : (shelves : Shelves) (fixed : FixReport) → TakesFor s task shelves → IsFixReport s.readings s.refused shelves.files shelves.rules fixed → length fixed.report.results ≤ s.most
      → over_limit (files_fixed shelves.files fixed.files) ≡ None
      → FixEnds s task Done (fix_line fixed ∷ []) (if task.flag then [] else fixed.files)

-- how fixing a folder ends, and the line that it prints
abbrev pub FixPrints : Setting → Task → Status → List (List ℕ) → Type 0
FixPrints s task status lines = (fixed : List FixedFile) × FixEnds s task status lines fixed
