-- A search for one source, split: its own fact goes everywhere, so only the names are followed that it adds.
use Rattle.std.specs.Prelude.{◌≡◌, ◌⊎◌, ◌↔◌, ◌+◌, ◌<◌, ◌≤◌, ℕ, zero, suc, List, [], ◌∷◌, length, slice_get, Some}
use Rattle.std.specs.Global.{Vec}
use Rattle.graph_form.specs.declared.graph.Graph.{Graph}
use Rattle.graph_form.specs.Edges.{HasEdge}
use Rattle.graph_form.specs.Sets.{Among}
use Rattle.flow_reach.specs.declared.moves.Move.{Move}
use Rattle.flow_reach.specs.declared.moves.Moves.{Moves}
use Rattle.flow_reach.specs.declared.reached.Reached.{Reached}
use Rattle.flow_reach.specs.Carried.{Fits, TurnsBy}
use Rattle.flow_reach.specs.Spread.{IsReady}
use Rattle.taint_plan.specs.declared.plan.Plan.{Plan}
use Rattle.taint_flow.specs.declared.split.Split.{Split}
use Rattle.taint_flow.specs.Still.{AreReachable, Reachable}

-- the one row does to names what the other does to their facts, which come after those of so many sources
abbrev pub TurnsNames : ℕ → Move → Move → Type 0
TurnsNames sources row names = (from to : ℕ) → TurnsBy names from to ↔ TurnsBy row (sources + from) (sources + to)

-- the same for moves
pub record AreNames (sources : ℕ) (moves names : Moves) : Type 0 where
  pub facts : sources + names.facts ≡ moves.facts
  pub rows : length names.rows ≡ length moves.rows
  pub each : (i : ℕ) (row named : Move) → slice_get moves.rows i ≡ Some row → slice_get names.rows i ≡ Some named → TurnsNames sources row named

-- the list with that number has the item
abbrev pub ListHas : {X : Type 0} → List (Vec X) → ℕ → X → Type 0
ListHas [] i x = ⊥
ListHas (xs ∷ more) zero x = Among xs.items x
ListHas (xs ∷ more) (suc i) x = ListHas more i x

-- the point, which is reached, adds the name with the source
abbrev pub AddsName : Graph → Moves → ℕ → ℕ → ℕ × ℕ → Type 0
AddsName graph moves sources source at =
    Reachable graph at.0 × ((row : Move) × (slice_get moves.rows at.0 ≡ Some row) × Among row.adds (source, sources + at.1))

-- for each of so many sources the points that add names with it, each with the name
pub record AreAdded (graph : Graph) (moves : Moves) (sources : ℕ) (added : List (Vec (ℕ × ℕ))) : Type 0 where
  pub size : length added ≡ sources
  pub exact : (source : ℕ) → source < sources → (at : ℕ × ℕ) → ListHas added source at ↔ AddsName graph moves sources source at

-- the name begins with these facts at the entry, or right after one of these points, which adds it
abbrev pub StartsBy : Graph → ℕ → List ℕ → List (ℕ × ℕ) → ℕ → ℕ → Type 0
StartsBy graph sources begins added point name =
    ((point ≡ 0) × Among begins (sources + name)) ⊎ ((before : ℕ) × Among added (before, name) × HasEdge graph before point)

-- what the searches for all sources of a plan share
pub record IsSplit (graph : Graph) (plan : Plan) (sources : ℕ) (split : Split) : Type 0 where
  pub sources_are : split.sources ≡ sources
  pub names : AreNames sources plan.moves split.names
  pub whole : Fits graph plan.moves
  pub fits : Fits graph split.names
  pub ready : IsReady graph split.names split.ready
  pub reached : AreReachable graph split.reached
  pub added : AreAdded graph plan.moves sources split.added.items
