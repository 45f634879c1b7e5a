-- Which texts of regular expressions a drill asks its builder for.
use Rattle.std.specs.Prelude.{◌≡◌, ℕ, List, [], ◌++◌, Option}
use Rattle.report_form.specs.declared.report.Report.{Report}
use Rattle.run_status.specs.declared.status.Status.{Status}
use Rattle.run_status.specs.Ways.{Printed}
use Rattle.wire_stream.specs.declared.wire.Wire.{Wire}
use Rattle.stream_run.specs.Doing.{Setting, Shelves}
use Rattle.stream_run.specs.Asking.{GoesBy, AsksOnce}
use Rattle.drill_run.specs.Drilling.{Drills, begun, more, HasDrilled, DrillEnds, done, too_many, over}

module _ {s : Setting} {all : List Wire} where
  -- the texts that the first commands go by, one command after the other
  abbrev pub GoBy : {left : List Wire} {shelves : Shelves} {reports : List Report} → Drills s all left shelves reports → List (List ℕ) → Type 0
  GoBy begun texts = texts ≡ []
  GoBy (more wire left old new reports reply drills does within) texts =
      (first : List (List ℕ)) × (last : List (List ℕ)) × GoBy drills first × GoesBy s.readings old.rules wire last × (texts ≡ first ++ last)

module _ {s : Setting} {count : ℕ} where
  -- the texts that a drill goes by which ends so: those of the commands that it did, and of the one at which it ended
  abbrev pub EndGoesBy : {status : Status} {lines : List (List ℕ)} → DrillEnds s count status lines → List (List ℕ) → Type 0
  EndGoesBy (done first second drilled) texts = GoBy drilled.1 texts
  EndGoesBy (too_many wire left old new reports most drills does) texts =
      (first : List (List ℕ)) × (last : List (List ℕ)) × GoBy drills first × GoesBy s.readings old.rules wire last × (texts ≡ first ++ last)
  EndGoesBy (over wire left old reports kind n drills passes) texts =
      (first : List (List ℕ)) × (last : List (List ℕ)) × GoBy drills first × GoesBy s.readings old.rules wire last × (texts ≡ first ++ last)

-- all commands of the drill with so many files were done, with these reports, and the builder was asked once for each text that
-- they went by
abbrev pub HasDrilledAsking : Setting → ℕ → List Report → Option (List (List ℕ)) → Option (List (List ℕ)) → Type 0
HasDrilledAsking s count reports before after = (drilled : HasDrilled s count reports) × ((texts : List (List ℕ)) × GoBy drilled.1 texts × AsksOnce before after texts)

-- it ends so with these lines, and the builder was asked once for each text that it went by
abbrev pub EndsAskingSo : Setting → ℕ → Status → List (List ℕ) → Option (List (List ℕ)) → Option (List (List ℕ)) → Type 0
EndsAskingSo s count status lines before after = (ends : DrillEnds s count status lines) × ((texts : List (List ℕ)) × EndGoesBy ends texts × AsksOnce before after texts)

-- the drill ended so, and the builder was asked once for each text that it went by
pub record DrilledAsking (s : Setting) (count : ℕ) (written written_after : Option (List ℕ)) (status : Status) (before after : Option (List (List ℕ))) : Type 0 where
  pub prints : Printed (DrillEnds s count) written written_after status
  pub texts : List (List ℕ)
  pub goes_by : EndGoesBy prints.ends texts
  pub asked : AsksOnce before after texts
