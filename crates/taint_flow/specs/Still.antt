-- Points that are reached, and facts that no point changes.
use Rattle.std.specs.Prelude.{◌≡◌, ◌↔◌, ◌<◌, ℕ, List, [], ◌∷◌, length, slice_get, Some}
use Rattle.std.specs.Global.{Vec}
use Rattle.node_tree.specs.declared.span.Span.{Span}
use Rattle.graph_form.specs.declared.graph.Graph.{Graph}
use Rattle.graph_form.specs.Edges.{HasEdge}
use Rattle.graph_form.specs.Sets.{Among}
use Rattle.flow_reach.specs.declared.moves.Move.{Move}
use Rattle.flow_reach.specs.declared.moves.Moves.{Moves}
use Rattle.flow_reach.specs.declared.reached.Reached.{Reached}
use Rattle.flow_reach.specs.Carried.{TurnsBy}
use Rattle.flow_reach.specs.Reached.{Tells}
use Rattle.taint_plan.specs.declared.goal.Goal.{Goal}
use Rattle.taint_plan.specs.declared.plan.Plan.{Plan}

-- the row changes nothing
abbrev pub IsStill : Move → Type 0
IsStill row = (row.drops ≡ []) × (row.adds ≡ [])

-- moves of so many points that change nothing, of one fact, which begins at the entry
pub record AreStill (points : ℕ) (moves : Moves) : Type 0 where
  pub facts : moves.facts ≡ 1
  pub start : Among moves.start 0
  pub rows : length moves.rows ≡ points
  pub still : (row : Move) → Among moves.rows row → IsStill row

-- these points, the last one first, lead from the entry to the point
abbrev pub LeadTo : Graph → List ℕ → ℕ → Type 0
LeadTo graph [] point = point ≡ 0
LeadTo graph (last ∷ earlier) point = LeadTo graph earlier last × HasEdge graph last point

-- some points lead from the entry to the point
abbrev pub Reachable : Graph → ℕ → Type 0
Reachable graph point = (earlier : List ℕ) × LeadTo graph earlier point

-- edges are between points that are there
abbrev pub EdgesFit : Graph → Type 0
EdgesFit graph = (from to : ℕ) → HasEdge graph from to → (from < length graph.points) × (to < length graph.points)

-- the answer has the points that are reached, with one fact for all
pub record AreReachable (graph : Graph) (reached : Reached) : Type 0 where
  pub edges : EdgesFit graph
  pub points : reached.points ≡ length graph.points
  pub facts : reached.facts ≡ 1
  pub exact : (point : ℕ) → point < length graph.points → Tells reached point 0 ↔ Reachable graph point

-- Nothing but one of so many facts itself is turned into it, and it always is. Of these facts each begins by itself.
pub record KeepsFacts (graph : Graph) (plan : Plan) (facts : ℕ) : Type 0 where
  pub rows : length plan.moves.rows ≡ length graph.points
  pub turns : (i : ℕ) (row : Move) → slice_get plan.moves.rows i ≡ Some row → (from to : ℕ) → to < facts → TurnsBy row from to ↔ (to ≡ from)
  pub lists : length plan.begins.items ≡ facts
  pub begins : (k : ℕ) (own : Vec ℕ) → slice_get plan.begins.items k ≡ Some own → (fact : ℕ) → fact < facts → Among own.items fact ↔ (fact ≡ k)

-- a goal of the sink is at one of these points, and its fact is the number of the source
abbrev pub BySources : (ℕ → Type 0) → List Span → List Goal → ℕ → Span → Type 0
BySources At sources goals sink source = (g : Goal) × Among goals g × (g.sink ≡ sink) × (slice_get sources g.fact ≡ Some source) × At g.point
