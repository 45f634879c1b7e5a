-- What `scan`, `fix`, `session` and `drill` do, over the files that a tree tells and the texts of regular expressions that are refused.
use Rattle.std.specs.Prelude.{ℕ, Bool, false, List, Option, None}
use Rattle.scan_world.specs.Files.{Files}
use Rattle.fix_apply.specs.declared.fixed.FixedFile.{FixedFile}
use Rattle.languages.specs.Trees.{IsTree, AreKnown}
use Rattle.languages.specs.Comments.{AreComments}
use Rattle.pattern_read.specs.Patterns.{IsPatternOf}
use Rattle.run_status.specs.declared.status.Status.{Status}
use Rattle.stream_run.specs.Reports.{Readings, readings_of}
use Rattle.stream_run.specs.Doing.{Setting}
use Rattle.stream_run.specs.Playing.{SessionEnds, AreFirstLines, PrintsWhole, PrintsToSync}
use Rattle.stream_run.specs.Costs.{EndsAfter}
use Rattle.stream_run.specs.Asking.{EndsAsking}
use Rattle.folder_run.specs.Ends.{ScanEnds, FixEnds}
use Rattle.folder_run.specs.Costs.{ScannedAfter, FixedAfter}
use Rattle.folder_run.specs.Asking.{ScannedAsking, FixedAsking}
use Rattle.drill_run.specs.Drilling.{DrillEnds}
use Rattle.drill_run.specs.Costs.{DrilledAfter}
use Rattle.drill_run.specs.Asking.{DrilledAsking}
use Rattle.wire_words.specs.Commands.{Task}

-- what texts and rules say in JSON, Python and C, and whether findings have their traces
abbrev pub readings : Bool → Readings
readings traced = readings_of IsTree AreKnown AreComments IsPatternOf traced

abbrev pub setting : ℕ → Bool → Option Files → List (List ℕ) → Setting
setting most traced told refused = record { readings = readings traced; told = told; refused = refused; most = most }

-- how a session ends, by the stream that its source tells
abbrev pub Serves : ℕ → Bool → Option Files → List (List ℕ) → Option (List ℕ) → Status → List (List ℕ) → Type 0
Serves most traced told refused left status lines = SessionEnds (setting most traced told refused) left status lines

-- these lines are those of the first commands of the stream
abbrev pub ServesFirst : ℕ → Bool → Option Files → List (List ℕ) → Option (List ℕ) → List (List ℕ) → Type 0
ServesFirst most traced told refused left lines = AreFirstLines (setting most traced told refused) left lines

-- the lines of all commands that the source handed over before a read failed were written
abbrev pub ServesWhole : ℕ → Bool → Option Files → List (List ℕ) → Option (List ℕ) → Option (List ℕ) → Option (List ℕ) → Option (List ℕ) → Type 0
ServesWhole most traced told refused left left_after written written_after = PrintsWhole (setting most traced told refused) left left_after written written_after

-- the lines of all commands before a `sync` were written
abbrev pub ServesToSync : ℕ → Bool → Option Files → List (List ℕ) → Option (List ℕ) → Option (List ℕ) → Option (List ℕ) → Type 0
ServesToSync most traced told refused left written written_after = PrintsToSync (setting most traced told refused) left written written_after

-- how a scan of a folder ends
abbrev pub Scans : Task → Option Files → List (List ℕ) → Status → List (List ℕ) → Type 0
Scans task told refused status lines = ScanEnds (setting task.most task.trace told refused) task status lines

-- how fixing a folder ends, and the files that it writes
abbrev pub FixesWith : Task → Option Files → List (List ℕ) → Status → List (List ℕ) → List FixedFile → Type 0
FixesWith task told refused status lines fixed = FixEnds (setting task.most task.trace told refused) task status lines fixed

abbrev pub Fixes : Task → Option Files → List (List ℕ) → Status → List (List ℕ) → Type 0
Fixes task told refused status lines = (fixed : List FixedFile) × FixesWith task told refused status lines fixed

-- how the drill with so many files ends: whatever a tree tells, and each report has at most 50,000 findings, which have no traces
abbrev pub Drills : ℕ → List (List ℕ) → Status → List (List ℕ) → Type 0
Drills count refused status lines = DrillEnds (setting 50000 false None refused) count status lines

-- ---- what they cost in steps: the numbers are before and after

-- the session ended so, and its commands took these steps
abbrev pub ServesAfter : ℕ → Bool → Option Files → List (List ℕ) → Option (List ℕ) → Option (List ℕ) → Option (List ℕ) → Status → ℕ → ℕ → Type 0
ServesAfter most traced told refused left written written_after status before after = EndsAfter (setting most traced told refused) left written written_after status before after

-- the scan of the folder ended so, and took these steps
abbrev pub ScansAfter : Task → Option Files → List (List ℕ) → Option (List ℕ) → Option (List ℕ) → Status → ℕ → ℕ → Type 0
ScansAfter task told refused written written_after status before after = ScannedAfter (setting task.most task.trace told refused) task written written_after status before after

-- fixing the folder ended so, and its one scan took these steps
abbrev pub FixesAfter : Task → Option Files → List (List ℕ) → Option (List ℕ) → Option (List ℕ) → Status → ℕ → ℕ → Type 0
FixesAfter task told refused written written_after status before after = FixedAfter (setting task.most task.trace told refused) task written written_after status before after

-- the drill ended so, and its commands took these steps
abbrev pub DrillsAfter : ℕ → List (List ℕ) → Option (List ℕ) → Option (List ℕ) → Status → ℕ → ℕ → Type 0
DrillsAfter count refused written written_after status before after = DrilledAfter (setting 50000 false None refused) count written written_after status before after

-- ---- which texts their builder was asked for: the lists are before and after, where the builder tells them

-- the session ended so, and the builder was asked once for each text that its commands went by
abbrev pub ServesAsking : ℕ → Bool → Option Files → List (List ℕ) → Option (List ℕ) → Option (List ℕ) → Option (List ℕ) → Status → Option (List (List ℕ)) → Option (List (List ℕ)) → Type 0
ServesAsking most traced told refused left written written_after status before after = EndsAsking (setting most traced told refused) left written written_after status before after

-- the scan of the folder ended so, and the builder was asked once for each text that it went by
abbrev pub ScansAsking : Task → Option Files → List (List ℕ) → Option (List ℕ) → Option (List ℕ) → Status → Option (List (List ℕ)) → Option (List (List ℕ)) → Type 0
ScansAsking task told refused written written_after status before after = ScannedAsking (setting task.most task.trace told refused) task written written_after status before after

-- fixing the folder ended so, and the builder was asked once for each text that it went by
abbrev pub FixesAsking : Task → Option Files → List (List ℕ) → Option (List ℕ) → Option (List ℕ) → Status → Option (List (List ℕ)) → Option (List (List ℕ)) → Type 0
FixesAsking task told refused written written_after status before after = FixedAsking (setting task.most task.trace told refused) task written written_after status before after

-- the drill ended so, and the builder was asked once for each text that its commands went by
abbrev pub DrillsAsking : ℕ → List (List ℕ) → Option (List ℕ) → Option (List ℕ) → Status → Option (List (List ℕ)) → Option (List (List ℕ)) → Type 0
DrillsAsking count refused written written_after status before after = DrilledAsking (setting 50000 false None refused) count written written_after status before after
