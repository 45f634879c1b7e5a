-- What names hold along the routes through a graph. A state is the list of the values of the names, in order of names; 0 is
-- unknown.
use Rattle.std.specs.Prelude.{◌≡◌, ◌<◌, ◌≤◌, ◌^◌, ℕ, List, [], ◌∷◌, length, slice_index, slice_index_or, slice_set}
use Rattle.graph_form.specs.declared.graph.Graph.{Graph}
use Rattle.graph_form.specs.Edges.{HasEdge}
use Rattle.graph_form.specs.Sets.{Among}
use Rattle.held_values.specs.declared.assign.Assign.{Assign}
use Rattle.held_values.specs.declared.assign.Effects.{Effects}
use Rattle.held_values.specs.declared.assign.Source.{Source}
use Rattle.held_values.specs.declared.assign.Source.TheVariants.{Sets, Copies}

-- the value that a source has in a state
abbrev pub value_of : List ℕ → Source → ℕ
value_of state (Sets value) = value
value_of state (Copies name) = slice_index state name

-- the state after the targets of a node, which all take the values before it
abbrev pub after_node : List ℕ → List ℕ → List Assign → List ℕ
after_node before now [] = now
after_node before now (x ∷ xs) = after_node before (slice_set now x.name (value_of before x.source)) xs

-- the state after the nodes of a point, one after the other
abbrev pub after_nodes : List ℕ → List (List Assign) → List ℕ
after_nodes state [] = state
after_nodes state (node ∷ nodes) = after_nodes (after_node state state node) nodes

-- these points, the last one first, lead from the entry to the point
abbrev pub IsRoute : Graph → List ℕ → ℕ → Type 0
IsRoute graph [] point = point ≡ 0
IsRoute graph (last ∷ earlier) point = IsRoute graph earlier last × HasEdge graph last point

-- the state after these points, the last one first
abbrev pub left : Effects → List ℕ → List ℕ
left effects [] = effects.start
left effects (last ∷ earlier) = after_nodes (left effects earlier) (slice_index_or effects.points last [])

-- some route reaches the point, and each such route leaves the name with this value before it
pub record Holds (graph : Graph) (effects : Effects) (point name value : ℕ) : Type 0 where
  pub some : (route : List ℕ) × IsRoute graph route point
  pub every : (route : List ℕ) → IsRoute graph route point → slice_index (left effects route) name ≡ value

-- the names of an assignment are there
pub record IsInside (names : ℕ) (assign : Assign) : Type 0 where
  pub name : assign.name < names
  pub copied : (other : ℕ) → assign.source ≡ Copies other → other < names

-- all of a node's are
abbrev pub AreInside : ℕ → List Assign → Type 0
AreInside names node = (assign : Assign) → Among node assign → IsInside names assign

-- all of a point's are
abbrev pub AreAllInside : ℕ → List (List Assign) → Type 0
AreAllInside names nodes = (node : List Assign) → Among nodes node → AreInside names node

-- the values of a point's assignments are there
abbrev pub AreKnown : ℕ → List (List Assign) → Type 0
AreKnown literals nodes = (node : List Assign) → Among nodes node → (assign : Assign) → Among node assign → (value : ℕ) → assign.source ≡ Sets value → value ≤ literals

-- there is a point, the entry, edges are between points that are there, there is a list of nodes for each point, and all names
-- and values are there
pub record Fits (graph : Graph) (effects : Effects) : Type 0 where
  pub entry : 0 < length graph.points
  pub few : length graph.points < 2 ^ 32
  pub names : length effects.start < 2 ^ 32
  pub edges : (from to : ℕ) → HasEdge graph from to → (from < length graph.points) × (to < length graph.points)
  pub points : length effects.points ≡ length graph.points
  pub start : (value : ℕ) → Among effects.start value → value ≤ effects.literals
  pub inside : (nodes : List (List Assign)) → Among effects.points nodes → AreAllInside (length effects.start) nodes
  pub known : (nodes : List (List Assign)) → Among effects.points nodes → AreKnown effects.literals nodes
