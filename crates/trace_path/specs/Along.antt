-- Facts along one path.
use Rattle.std.specs.Prelude.{◌≡◌, ◌↔◌, ℕ, List, take}
use Rattle.graph_form.specs.declared.graph.Graph.{Graph}
use Rattle.graph_form.specs.Edges.{HasEdge}
use Rattle.graph_form.specs.Sets.{Among}
use Rattle.flow_reach.specs.declared.moves.Move.{Move}
use Rattle.flow_reach.specs.declared.moves.Moves.{Moves}
use Rattle.flow_reach.specs.Carried.{Stop, Leads, Turns, TurnsBy}
use Rattle.trace_path.specs.Queue.{Ascends}
use Rattle.trace_path.specs.Trace.{points_of}

-- the path through these points, the last one first, carries the fact to the point
abbrev pub Along : Graph → Moves → ℕ → List ℕ → ℕ → Type 0
Along graph moves point earlier fact = (stops : List Stop) × Leads graph moves stops point fact × (points_of stops ≡ earlier)

-- the fact is carried to the point where a path begins there
abbrev pub Begins : Moves → ℕ → ℕ → Type 0
Begins moves point fact = (point ≡ 0) × Among moves.start fact

-- the row turns one of the facts into this one
abbrev pub TurnedBy : Move → List ℕ → ℕ → Type 0
TurnedBy row facts after = (fact : ℕ) × Among facts fact × TurnsBy row fact after

-- the fact is carried on to the next point from one of these
abbrev pub Follows : Graph → Moves → ℕ → ℕ → List ℕ → ℕ → Type 0
Follows graph moves from to facts after = HasEdge graph from to × ((fact : ℕ) × Among facts fact × Turns moves from fact after)

-- one of the facts is a goal's at the point
abbrev pub Ends : List (ℕ × ℕ) → ℕ → List ℕ → Type 0
Ends goals point facts = (fact : ℕ) × Among goals (point, fact) × Among facts fact

-- these are the first so many numbers, in order
pub record IsDistinct (numbers : List ℕ) (n : ℕ) (found : List ℕ) : Type 0 where
  pub same : (x : ℕ) → Among found x ↔ Among (take n numbers) x
  pub ascends : Ascends found
