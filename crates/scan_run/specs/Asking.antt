-- Which texts of regular expressions a run asks its builder for. The lists of a builder are before and after, where it tells them.
use Rattle.std.specs.Prelude.{ℕ, Bool, List, Option}
use Rattle.scan_world.specs.Files.{Files}
use Rattle.wire_words.specs.Commands.{Request, Scanning, Fixing, Serving, Drilling}
use Rattle.run_status.specs.declared.status.Status.{Status}
use Rattle.stream_run.specs.Asking.{FrontAsking}
use Rattle.scan_run.specs.Serving.{setting, ServesAsking, ScansAsking, FixesAsking, DrillsAsking}
use Rattle.scan_run.specs.Run.{Asks}

-- what a request gives to the builder, if it scans: it ended so, and each text that it went by was given once
abbrev pub GivesFor : Request → Option (List ℕ) → Option Files → List (List ℕ) → Option (List ℕ) → Option (List ℕ) → Status → Option (List (List ℕ)) → Option (List (List ℕ)) → Type 0
GivesFor (Scanning task) left told refused written written_after status before after = ScansAsking task told refused written written_after status before after
GivesFor (Fixing task) left told refused written written_after status before after = FixesAsking task told refused written written_after status before after
GivesFor (Serving most trace) left told refused written written_after status before after = ServesAsking most trace told refused left written written_after status before after
GivesFor (Drilling count) left told refused written written_after status before after = DrillsAsking count refused written written_after status before after
GivesFor _ left told refused written written_after status before after = Unit {0}

-- the same of what the words ask for
abbrev pub Gives : List (List ℕ) → Option (List ℕ) → Option Files → List (List ℕ) → Option (List ℕ) → Option (List ℕ) → Status → Option (List (List ℕ)) → Option (List (List ℕ)) → Type 0
Gives words left told refused written written_after status before after = (request : Request) → Asks words request → GivesFor request left told refused written written_after status before after

-- a front of the lines of the first commands of a session was written, and each text that these went by was given once
abbrev pub GivesFirst : List (List ℕ) → Option (List ℕ) → Option Files → List (List ℕ) → Option (List ℕ) → Option (List ℕ) → Option (List (List ℕ)) → Option (List (List ℕ)) → Type 0
GivesFirst words left told refused written written_after before after = (most : ℕ) × (trace : Bool) × Asks words (Serving most trace) × FrontAsking (setting most trace told refused) left written written_after before after
