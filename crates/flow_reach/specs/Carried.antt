-- Which facts some path carries to which points.
use Rattle.std.specs.Prelude.{◌≡◌, ◌⊎◌, ◌<◌, ◌^◌, ℕ, List, [], ◌∷◌, length, slice_get, Some}
use Rattle.graph_form.specs.declared.graph.Graph.{Graph}
use Rattle.graph_form.specs.Edges.{HasEdge}
use Rattle.graph_form.specs.Sets.{Among}
use Rattle.flow_reach.specs.declared.moves.Moves.{Moves}
use Rattle.flow_reach.specs.declared.moves.Move.{Move}

-- the fact goes on as it is, since it isn't dropped
abbrev pub Stays : List ℕ → ℕ → ℕ → Type 0
Stays drops before after = (before ≡ after) × (Among drops before → ⊥)

-- what a point does turns the one fact into the other: it doesn't drop it, or adds the other with it
abbrev pub TurnsBy : Move → ℕ → ℕ → Type 0
TurnsBy row before after = Stays row.drops before after ⊎ Among row.adds (before, after)

-- the same by the number of the point
abbrev pub Turns : Moves → ℕ → ℕ → ℕ → Type 0
Turns moves point before after = (row : Move) × (slice_get moves.rows point ≡ Some row) × TurnsBy row before after

-- a stop of a path: a point, and the fact that is carried to just before it
pub record Stop : Type 0 where
  pub point : ℕ
  pub fact : ℕ

-- these stops, the last one first, lead from a point where a fact begins to just before the point, and carry the fact there
abbrev pub LeadsFrom : (ℕ → ℕ → Type 0) → Graph → Moves → List Stop → ℕ → ℕ → Type 0
LeadsFrom Begins graph moves [] point fact = Begins point fact
LeadsFrom Begins graph moves (last ∷ earlier) point fact =
    LeadsFrom Begins graph moves earlier last.point last.fact × HasEdge graph last.point point × Turns moves last.point last.fact fact

-- facts that begin at the entry
abbrev pub AtEntry : Moves → ℕ → ℕ → Type 0
AtEntry moves point fact = (point ≡ 0) × Among moves.start fact

-- the same for paths from the entry
abbrev pub Leads : Graph → Moves → List Stop → ℕ → ℕ → Type 0
Leads graph moves stops point fact = LeadsFrom (AtEntry moves) graph moves stops point fact

-- some path from a point where a fact begins carries the fact to just before the point
abbrev pub CarriedFrom : (ℕ → ℕ → Type 0) → Graph → Moves → ℕ → ℕ → Type 0
CarriedFrom Begins graph moves point fact = (stops : List Stop) × LeadsFrom Begins graph moves stops point fact

-- some path from the entry carries the fact to just before the point
abbrev pub Carried : Graph → Moves → ℕ → ℕ → Type 0
Carried graph moves point fact = CarriedFrom (AtEntry moves) graph moves point fact

-- the facts that begin are those of a list of pairs
abbrev pub Pairs : List (ℕ × ℕ) → ℕ → ℕ → Type 0
Pairs pairs point fact = Among pairs (point, fact)

-- facts begin at points that are there, and are there
abbrev pub Inside : (ℕ → ℕ → Type 0) → Graph → Moves → Type 0
Inside Begins graph moves = (point fact : ℕ) → Begins point fact → (point < length graph.points) × (fact < moves.facts)

-- the row speaks of facts that are there
pub record SpeaksOf (facts : ℕ) (row : Move) : Type 0 where
  pub drops : (f : ℕ) → Among row.drops f → f < facts
  pub adds : (f h : ℕ) → Among row.adds (f, h) → (f < facts) × (h < facts)

-- the rows speak of facts that are there
abbrev pub AreRows : Moves → Type 0
AreRows moves = (point : ℕ) (row : Move) → slice_get moves.rows point ≡ Some row → SpeaksOf moves.facts row

-- there is a point, the entry, edges are between points that are there, there is a row for each point, and all facts named
-- are there
pub record Fits (graph : Graph) (moves : Moves) : Type 0 where
  pub entry : 0 < length graph.points
  pub few : length graph.points < 2 ^ 32
  pub edges : (from to : ℕ) → HasEdge graph from to → (from < length graph.points) × (to < length graph.points)
  pub rows : length moves.rows ≡ length graph.points
  pub start : (f : ℕ) → Among moves.start f → f < moves.facts
  pub speaks : AreRows moves
