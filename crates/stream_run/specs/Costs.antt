-- What a session costs in steps.
use Rattle.std.specs.Prelude.{◌≡◌, ℕ, List, Option}
use Rattle.workspace.specs.SeenFiles.{SeenFiles}
use Rattle.workspace.specs.Seen.{HasSeenNone}
use Rattle.run_status.specs.declared.status.Status.{Status}
use Rattle.wire_stream.specs.declared.wire.Wire.{Wire}
use Rattle.wire_stream.specs.declared.wire.Wire.TheVariants as wires
use Rattle.workspace.specs.Reports.{Readings}
use Rattle.workspace.specs.Work.{Works}
use Rattle.stream_run.specs.Doing.{Setting, Shelves}
use Rattle.stream_run.specs.Playing.{Plays, begun, more, SessionEnds, ended, bad, long, over, AreFirstLines, PrintsEnd, PrintsFront}

-- A command takes the steps from the one number to the other, and what was seen by then becomes what is seen. A scan and a fix
-- take what `Works` says, of the files and the rule files that are there before. Any other command takes no step and leaves what
-- was seen.
abbrev pub Costs : Readings → List (List ℕ) → Shelves → Wire → SeenFiles → SeenFiles → ℕ → ℕ → Type 0
Costs readings refused old wires.Scan was seen before after = Works readings refused old.files old.rules was seen before after
Costs readings refused old wires.Fix was seen before after = Works readings refused old.files old.rules was seen before after
Costs readings refused old _ was seen before after = (seen ≡ was) × (after ≡ before)

module _ {s : Setting} {stream : Option (List ℕ)} where
  -- The first commands took the steps from the one number to the other, each its own, and this is what is seen then. Before the
  -- first one nothing was seen.
  abbrev pub Take : {place : ℕ} {lines : List (List ℕ)} {shelves : Shelves} {left : Option (List ℕ)} → Plays s stream place lines shelves left → SeenFiles → ℕ → ℕ → Type 0
  Take begun seen before after = HasSeenNone seen × (after ≡ before)
  Take (more place count lines old shelves left rest wire reply plays goes some within does) seen before after =
      (was : SeenFiles) × (steps : ℕ) × Take plays was before steps × Costs s.readings s.refused old wire was seen steps after

  -- the steps of a session that ends so: those of the commands that it did, and of the one that would have passed a limit
  abbrev pub EndTakes : {status : Status} {lines : List (List ℕ)} → SessionEnds s stream status lines → ℕ → ℕ → Type 0
  EndTakes (ended place count lines shelves left rest plays goes within) before after = (seen : SeenFiles) × Take plays seen before after
  EndTakes (bad place lines shelves left plays none) before after = (seen : SeenFiles) × Take plays seen before after
  EndTakes (long place lines shelves left plays longer) before after = (seen : SeenFiles) × Take plays seen before after
  EndTakes (over place count lines shelves left rest wire kind n plays goes within passes) before after =
      (was : SeenFiles) × (seen : SeenFiles) × (steps : ℕ) × Take plays was before steps × Costs s.readings s.refused shelves wire was seen steps after

  -- the first commands that have these lines took the steps
  abbrev pub FirstTake : {lines : List (List ℕ)} → AreFirstLines s stream lines → ℕ → ℕ → Type 0
  FirstTake first before after = (seen : SeenFiles) × Take first.3 seen before after

-- the session ended so, and took these steps
pub record EndsAfter (s : Setting) (stream written written_after : Option (List ℕ)) (status : Status) (before after : ℕ) : Type 0 where
  pub prints : PrintsEnd s stream written written_after status
  pub takes : EndTakes prints.ends before after

-- what was written is a front of the lines of the first commands, and these took the steps
pub record FrontAfter (s : Setting) (stream written written_after : Option (List ℕ)) (before after : ℕ) : Type 0 where
  pub prints : PrintsFront s stream written written_after
  pub take : FirstTake prints.first before after
