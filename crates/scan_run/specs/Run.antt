-- What a run does: its status, and the lines that it prints.
use Rattle.std.specs.Prelude.{◌≡◌, ◌⊎◌, ℕ, Bool, false, List, [], Option, None, IsSome}
use Rattle.std.specs.List.{concat}
use Rattle.std.specs.Io.KnownBytes.{Appends}
use Rattle.node_tree.specs.declared.view.Lang.{Lang}
use Rattle.scan_world.specs.Files.{Files}
use Rattle.wire_words.specs.Commands.{Task, Request, Matching, Checking, Scanning, Fixing, Serving, Drilling, IsCommand}
use Rattle.run_status.specs.declared.status.Status.{Status}
use Rattle.run_status.specs.declared.status.Status.TheVariants.{Usage}
use Rattle.run_status.specs.Status.{IsFinished}
use Rattle.scan_run.specs.Matching.{Matches}
use Rattle.scan_run.specs.Checking.{Checks}
use Rattle.folder_run.specs.Written.{Wrote, Leaves}
use Rattle.scan_run.specs.Serving.{setting, Serves, ServesFirst, ServesWhole, ServesToSync, Scans, Fixes, Drills, ServesAfter, ScansAfter, FixesAfter, DrillsAfter}
use Rattle.scan_world.specs.Streams.{AppendsFront}
use Rattle.run_status.specs.Ways.{AppendsSome}

-- a run does what is requested; stores are not built yet
abbrev pub IsBuilt : Request → Type 0
IsBuilt (Matching lang text) = Unit {0}
IsBuilt Checking = Unit {0}
IsBuilt (Scanning task) = task.store ≡ None
IsBuilt (Fixing task) = Unit {0}
IsBuilt (Serving most trace) = Unit {0}
IsBuilt (Drilling count) = Unit {0}

-- the words ask for this, and a run does it
pub record Asks (words : List (List ℕ)) (request : Request) : Type 0 where
  pub command : IsCommand words request
  pub built : IsBuilt request

-- the words ask for nothing that a run does
abbrev pub AreOtherWords : List (List ℕ) → Type 0
AreOtherWords words = (request : Request) → Asks words request → ⊥

-- How a run ends, and the lines that it prints, by its words, by what its source and its tree tell, and by the texts of regular
-- expressions that its builder refused, where no fault is met and memory is not wanting.
pub data Ends (words : List (List ℕ)) (left : Option (List ℕ)) (told : Option Files) (refused : List (List ℕ)) : Status → List (List ℕ) → Type 0 where
  usage : AreOtherWords words → Ends words left told refused Usage []
  matched : (lang : Lang) (text : List ℕ) (status : Status) (lines : List (List ℕ)) → Asks words (Matching lang text) → Matches lang text left status lines → Ends words left told refused status lines
  checked : (status : Status) (lines : List (List ℕ)) → Asks words Checking → Checks left status lines → Ends words left told refused status lines
  scanned : (task : Task) (status : Status) (lines : List (List ℕ)) → Asks words (Scanning task) → Scans task told refused status lines → Ends words left told refused status lines
  fixed : (task : Task) (status : Status) (lines : List (List ℕ)) → Asks words (Fixing task) → Fixes task told refused status lines → Ends words left told refused status lines
  served : (most : ℕ) (trace : Bool) (status : Status) (lines : List (List ℕ)) → Asks words (Serving most trace) → Serves most trace told refused left status lines → Ends words left told refused status lines
  drilled : (count : ℕ) (status : Status) (lines : List (List ℕ)) → Asks words (Drilling count) → Drills count refused status lines → Ends words left told refused status lines

-- The first lines of a run: all of them where it does all that it is asked for, or those of the first commands of a session.
pub data StartsWith (words : List (List ℕ)) (left : Option (List ℕ)) (told : Option Files) (refused : List (List ℕ)) : List (List ℕ) → Type 0 where
  whole : (status : Status) (lines : List (List ℕ)) → IsFinished status → Ends words left told refused status lines → StartsWith words left told refused lines
  commands : (most : ℕ) (trace : Bool) (lines : List (List ℕ)) → Asks words (Serving most trace) → ServesFirst most trace told refused left lines → StartsWith words left told refused lines

-- some front of the first lines of a run was written
abbrev pub WritesFront : List (List ℕ) → Option (List ℕ) → Option Files → List (List ℕ) → Option (List ℕ) → Option (List ℕ) → Type 0
WritesFront words left told refused written written_after = (lines : List (List ℕ)) × StartsWith words left told refused lines × AppendsFront written written_after (concat lines)

-- some first lines of a run were written, each whole
abbrev pub WritesSome : List (List ℕ) → Option (List ℕ) → Option Files → List (List ℕ) → Option (List ℕ) → Option (List ℕ) → Type 0
WritesSome words left told refused written written_after = (lines : List (List ℕ)) × StartsWith words left told refused lines × AppendsSome written written_after lines

-- the lines of the first commands of a session were written, each whole
abbrev pub WritesCommands : List (List ℕ) → Option (List ℕ) → Option Files → List (List ℕ) → Option (List ℕ) → Option (List ℕ) → Type 0
WritesCommands words left told refused written written_after =
    (most : ℕ) × (trace : Bool) × Asks words (Serving most trace) × ((lines : List (List ℕ)) × ServesFirst most trace told refused left lines × Appends written written_after (concat lines))

-- the lines of all commands of a session that its source handed over were written, each whole
abbrev pub WritesAllRead : List (List ℕ) → Option (List ℕ) → Option (List ℕ) → Option Files → List (List ℕ) → Option (List ℕ) → Option (List ℕ) → Type 0
WritesAllRead words left left_after told refused written written_after = (most : ℕ) × (trace : Bool) × Asks words (Serving most trace) × ServesWhole most trace told refused left left_after written written_after

-- the lines of all commands of a session before a `sync` were written, each whole
abbrev pub WritesToSync : List (List ℕ) → Option (List ℕ) → Option Files → List (List ℕ) → Option (List ℕ) → Option (List ℕ) → Type 0
WritesToSync words left told refused written written_after = (most : ℕ) × (trace : Bool) × Asks words (Serving most trace) × ServesToSync most trace told refused left written written_after

-- what a request reads is told: a match and a check read the input, a scan and a fix the files, a session both, and a drill nothing
abbrev pub IsTold : Option (List ℕ) → Option Files → Request → Type 0
IsTold left told (Matching lang text) = IsSome left
IsTold left told Checking = IsSome left
IsTold left told (Scanning task) = IsSome told
IsTold left told (Fixing task) = IsSome told
IsTold left told (Serving most trace) = IsSome left × IsSome told
IsTold left told (Drilling count) = Unit {0}

-- what the words ask for reads only what is told
abbrev pub AreTold : List (List ℕ) → Option (List ℕ) → Option Files → Type 0
AreTold words left told = (request : Request) → Asks words request → IsTold left told request

-- the words ask for a match
abbrev pub AskToMatch : List (List ℕ) → Type 0
AskToMatch words = (lang : Lang) × (text : List ℕ) × Asks words (Matching lang text)

-- they ask for a match or a check, which read the input
abbrev pub AskToRead : List (List ℕ) → Type 0
AskToRead words = AskToMatch words ⊎ Asks words Checking

-- the words ask for a session
abbrev pub AskToServe : List (List ℕ) → Type 0
AskToServe words = (most : ℕ) × (trace : Bool) × Asks words (Serving most trace)

-- what a request costs in steps, if it scans; the numbers are before and after
abbrev pub TakesFor : Request → Option (List ℕ) → Option Files → List (List ℕ) → Option (List ℕ) → Option (List ℕ) → Status → ℕ → ℕ → Type 0
TakesFor (Serving most trace) left told refused written written_after status before after = ServesAfter most trace told refused left written written_after status before after
TakesFor (Scanning task) left told refused written written_after status before after = ScansAfter task told refused written written_after status before after
TakesFor (Fixing task) left told refused written written_after status before after = FixesAfter task told refused written written_after status before after
TakesFor (Drilling count) left told refused written written_after status before after = DrillsAfter count refused written written_after status before after
TakesFor _ left told refused written written_after status before after = Unit {0}

-- the same of what the words ask for
abbrev pub Takes : List (List ℕ) → Option (List ℕ) → Option Files → List (List ℕ) → Option (List ℕ) → Option (List ℕ) → Status → ℕ → ℕ → Type 0
Takes words left told refused written written_after status before after = (request : Request) → Asks words request → TakesFor request left told refused written written_after status before after

-- the words ask for fixes that are written
abbrev pub AskToWrite : List (List ℕ) → Type 0
AskToWrite words = (task : Task) × Asks words (Fixing task) × (task.flag ≡ false)

-- what fixing leaves in the tree, by what the words ask for
abbrev pub FixLeaves : List (List ℕ) → Option Files → List (List ℕ) → Option Files → Type 0
FixLeaves words told refused new = (task : Task) → Asks words (Fixing task) → Leaves (setting task.most task.trace told refused) task new

-- the changed files of this end were written
abbrev pub FixWrote : List (List ℕ) → Option Files → List (List ℕ) → Option Files → Status → Type 0
FixWrote words told refused new status = (task : Task) → Asks words (Fixing task) → Wrote (setting task.most task.trace told refused) task new status

-- what is requested scans nothing
abbrev pub ScansNothing : Request → Type 0
ScansNothing (Matching lang text) = Unit {0}
ScansNothing Checking = Unit {0}
ScansNothing _ = ⊥

-- the words ask for nothing that scans
abbrev pub AskForNoScan : List (List ℕ) → Type 0
AskForNoScan words = (request : Request) → Asks words request → ScansNothing request

-- nor for a match: so no file is opened and no pattern is searched for
abbrev pub AskForNoSearch : List (List ℕ) → Type 0
AskForNoSearch words = AskForNoScan words × (AskToMatch words → ⊥)
