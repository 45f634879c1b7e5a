-- What is said of a command before it is known which texts will be refused later in the session.
use Rattle.std.specs.Prelude.{◌≡◌, ℕ, List, ◌++◌, [], Option}
use Rattle.scan_world.specs.Files.{Files}
use Rattle.file_map.specs.declared.limit.LimitKind.{LimitKind}
use Rattle.decided_texts.specs.Decided.{AreUndecided}
use Rattle.decided_texts.specs.Refused.{gained, Gains}
use Rattle.workspace.specs.SeenFiles.{SeenFiles}
use Rattle.wire_stream.specs.declared.wire.Wire.{Wire}
use Rattle.wire_stream.specs.declared.wire.Wire.TheVariants as wires
use Rattle.workspace.specs.State.{State}
use Rattle.workspace.specs.Reports.{Readings, StayDecided}
use Rattle.stream_run.specs.declared.reply.Reply.{Reply}
use Rattle.stream_run.specs.Doing.{Setting, Shelves, Does, Passes}
use Rattle.stream_run.specs.Costs.{Costs}

-- the setting of a session in which these texts are refused
abbrev pub setting : Readings → Option Files → ℕ → List (List ℕ) → Setting
setting readings told most refused = record { readings = readings; told = told; refused = refused; most = most }

-- the files and the rule files of a workspace
abbrev pub shelves_of : State → Shelves
shelves_of state = record { files = state.files; rules = state.rules }

-- there are neither files nor rules, and no text is decided
pub record IsNew (state : State) : Type 0 where
  pub files : state.files ≡ []
  pub rules : state.rules ≡ []
  pub refused : state.decided.refused ≡ []
  pub built : state.decided.built ≡ []

-- a command that asks for no scan
abbrev pub IsEdit : Wire → Type 0
IsEdit wires.Scan = ⊥
IsEdit wires.Fix = ⊥
IsEdit _ = Unit {0}

-- a command that looks into the folder
abbrev pub IsSync : Wire → Type 0
IsSync (wires.Sync prefix) = Unit {0}
IsSync _ = ⊥

-- whichever texts are refused in the session, the command does this and comes to this
abbrev pub DoesEver : Readings → Option Files → State → Wire → State → Reply → Type 0
DoesEver readings told old wire new reply = (refused : List (List ℕ)) → Does (setting readings told old.most refused) (shelves_of old) wire (shelves_of new) reply

-- and so it passes this limit
abbrev pub PassesEver : Readings → Option Files → State → Wire → LimitKind → ℕ → Type 0
PassesEver readings told old wire kind n = (refused : List (List ℕ)) → Passes (setting readings told old.most refused) (shelves_of old) kind n wire

-- whichever texts are refused later, none of which is decided yet, the command does this and comes to this
abbrev pub DoesStill : Readings → Option Files → State → Wire → State → Reply → Type 0
DoesStill readings told old wire new reply =
    (more : List (List ℕ)) → AreUndecided new.decided more → Does (setting readings told old.most (new.decided.refused ++ more)) (shelves_of old) wire (shelves_of new) reply

-- and the command takes these steps
abbrev pub CostsStill : Readings → State → Wire → State → SeenFiles → SeenFiles → ℕ → ℕ → Type 0
CostsStill readings old wire new was seen before after =
    (more : List (List ℕ)) → AreUndecided new.decided more → Costs readings (new.decided.refused ++ more) (shelves_of old) wire was seen before after

-- where the texts are refused that are so then, this limit is passed
abbrev pub PassesNow : Readings → Option Files → State → Wire → State → LimitKind → ℕ → Type 0
PassesNow readings told old wire new kind n = Passes (setting readings told old.most new.decided.refused) (shelves_of old) kind n wire

-- A command changed how many findings a report may have in no way, and no text that was decided; the texts that a builder's list
-- gained were not decided before.
pub record Keeps (old new : State) (texts texts_after : List (List ℕ)) : Type 0 where
  pub most : new.most ≡ old.most
  pub stay : StayDecided old.decided new.decided
  pub asked : AreUndecided old.decided (gained texts texts_after)
  pub grows : Gains texts texts_after

-- those that it gained are the ones that are refused since then
abbrev pub RefusesGained : State → State → List (List ℕ) → List (List ℕ) → Type 0
RefusesGained old new texts texts_after = new.decided.refused ≡ old.decided.refused ++ gained texts texts_after
