-- What a drill costs in steps.
use Rattle.std.specs.Prelude.{◌≡◌, ℕ, List, Option}
use Rattle.report_form.specs.declared.report.Report.{Report}
use Rattle.run_status.specs.declared.status.Status.{Status}
use Rattle.run_status.specs.Ways.{Printed}
use Rattle.stream_run.specs.SeenFiles.{SeenFiles}
use Rattle.stream_run.specs.Seen.{HasSeenNone}
use Rattle.wire_stream.specs.declared.wire.Wire.{Wire}
use Rattle.stream_run.specs.Doing.{Setting, Shelves}
use Rattle.stream_run.specs.Costs.{Costs}
use Rattle.drill_run.specs.Drilling.{Drills, begun, more, HasDrilled, DrillEnds, done, too_many, over}

module _ {s : Setting} {all : List Wire} where
  -- The first commands took the steps from the one number to the other, each its own, and this is what is seen then. Before the
  -- first one nothing was seen.
  abbrev pub Take : {left : List Wire} {shelves : Shelves} {reports : List Report} → Drills s all left shelves reports → SeenFiles → ℕ → ℕ → Type 0
  Take begun seen before after = HasSeenNone seen × (after ≡ before)
  Take (more wire left old new reports reply drills does within) seen before after =
      (was : SeenFiles) × (steps : ℕ) × Take drills was before steps × Costs s.readings s.refused old wire was seen steps after

-- all commands of the drill with so many files were done, with these reports, and took these steps
abbrev pub HasDrilledAfter : Setting → ℕ → List Report → ℕ → ℕ → Type 0
HasDrilledAfter s count reports before after = (drilled : HasDrilled s count reports) × ((seen : SeenFiles) × Take drilled.1 seen before after)

module _ {s : Setting} {count : ℕ} where
  -- the steps of a drill that ends so: those of the commands that it did, and of the one at which it ended
  abbrev pub EndTakes : {status : Status} {lines : List (List ℕ)} → DrillEnds s count status lines → ℕ → ℕ → Type 0
  EndTakes (done first second drilled) before after = (seen : SeenFiles) × Take drilled.1 seen before after
  EndTakes (too_many wire left old new reports most drills does) before after =
      (was : SeenFiles) × (seen : SeenFiles) × (steps : ℕ) × Take drills was before steps × Costs s.readings s.refused old wire was seen steps after
  EndTakes (over wire left old reports kind n drills passes) before after =
      (was : SeenFiles) × (seen : SeenFiles) × (steps : ℕ) × Take drills was before steps × Costs s.readings s.refused old wire was seen steps after

-- it ends so with these lines, and takes these steps
abbrev pub EndsSo : Setting → ℕ → Status → List (List ℕ) → ℕ → ℕ → Type 0
EndsSo s count status lines before after = (ends : DrillEnds s count status lines) × EndTakes ends before after

-- the drill ended so, and took these steps
pub record DrilledAfter (s : Setting) (count : ℕ) (written written_after : Option (List ℕ)) (status : Status) (before after : ℕ) : Type 0 where
  pub prints : Printed (DrillEnds s count) written written_after status
  pub takes : EndTakes prints.ends before after
