-- What a drill does: the session of `wire_drill`, of which the numbers of findings and notices are printed.
use Rattle.std.specs.Prelude.{◌≡◌, ℕ, List, [], ◌∷◌, ◌++◌, length, codes}
use Rattle.std.specs.Fmt.{decimal}
use Rattle.file_map.specs.declared.limit.LimitKind.{LimitKind}
use Rattle.report_form.specs.declared.report.Report.{Report}
use Rattle.run_status.specs.declared.status.Status.{Status}
use Rattle.run_status.specs.declared.status.Status.TheVariants.{Done, TooMany, OverLimit}
use Rattle.wire_stream.specs.declared.wire.Wire.{Wire}
use Rattle.wire_drill.specs.Drill.{drill}
use Rattle.stream_run.specs.declared.reply.Reply.{Reply}
use Rattle.stream_run.specs.declared.reply.Reply.TheVariants as replies
use Rattle.stream_run.specs.Doing.{Setting, Shelves, empty_shelves, Does, Passes}

-- the report that a command came to, if it was a scan
abbrev pub report_in : Reply → List Report
report_in (replies.Reported report) = report ∷ []
report_in _ = []

-- a command that came to this has no more findings than a report may have
abbrev pub IsWithin : Reply → Type 0
IsWithin (replies.TooMany most) = ⊥
IsWithin _ = Unit {0}

-- The first commands of the list were done, one after the other, with these reports, and these commands are left.
pub data Drills (s : Setting) (all : List Wire) : List Wire → Shelves → List Report → Type 0 where
  begun : Drills s all all empty_shelves []
  more : (wire : Wire) (left : List Wire) (old new : Shelves) (reports : List Report) (reply : Reply)
      → Drills s all (wire ∷ left) old reports → Does s old wire new reply → IsWithin reply → Drills s all left new (reports ++ report_in reply)

-- all commands of the drill with so many files were done, with these reports
abbrev pub HasDrilled : Setting → ℕ → List Report → Type 0
HasDrilled s count reports = (shelves : Shelves) × Drills s (drill count) [] shelves reports

-- the line of a drill: how many files it puts, how many findings both scans have, and how many notices the second
abbrev pub drill_line : ℕ → Report → Report → List ℕ
drill_line count first second =
    codes "files "
    ++ (decimal count
    ++ (codes " first " ++ (decimal (length first.results) ++ (codes " second " ++ (decimal (length second.results) ++ (codes " notices " ++ (decimal (length second.notices) ++ codes "\n")))))))

-- How a drill ends, and the line that it prints: when all was done, or at the first command with too many findings or that would
-- pass a limit.
pub data DrillEnds (s : Setting) (count : ℕ) : Status → List (List ℕ) → Type 0 where
  done : (first second : Report) → HasDrilled s count (first ∷ second ∷ []) → DrillEnds s count Done (drill_line count first second ∷ [])
  too_many : (wire : Wire) (left : List Wire) (old new : Shelves) (reports : List Report) (most : ℕ)
      → Drills s (drill count) (wire ∷ left) old reports → Does s old wire new (replies.TooMany most) → DrillEnds s count (TooMany most) []
  over : (wire : Wire) (left : List Wire) (old : Shelves) (reports : List Report) (kind : LimitKind) (n : ℕ)
      → Drills s (drill count) (wire ∷ left) old reports → Passes s old kind n wire → DrillEnds s count (OverLimit kind n) []

-- a drill ends in no other way
abbrev pub EndsOnlySo : Setting → ℕ → Status → List (List ℕ) → Type 0
EndsOnlySo s count status lines = (other : Status) (others : List (List ℕ)) → DrillEnds s count other others → (other ≡ status) × (others ≡ lines)

-- it ends with two reports and their line in no other way
abbrev pub EndsOnlyWith : Setting → ℕ → List Report → Type 0
EndsOnlyWith s count reports = (first second : Report) → reports ≡ first ∷ second ∷ [] → EndsOnlySo s count Done (drill_line count first second ∷ [])
