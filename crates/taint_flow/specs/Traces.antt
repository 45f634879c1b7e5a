-- The moves of a unit for one source, along whose paths the sinks are hit, and the tables that they are made from.
use Rattle.std.specs.Prelude.{◌≡◌, ◌↔◌, ◌<◌, ℕ, ◌==◌, List, ◌∷◌, length, map, filter, reverse, slice_get, Some}
use Rattle.node_tree.specs.declared.node.Node.{Node}
use Rattle.node_tree.specs.declared.span.Span.{Span}
use Rattle.graph_form.specs.declared.graph.Graph.{Graph}
use Rattle.graph_form.specs.declared.graph.Point.{Point}
use Rattle.graph_form.specs.Sets.{Among}
use Rattle.trace_path.specs.Trace.{IsTrace}
use Rattle.taint_form.specs.Tables.{Holds}
use Rattle.taint_plan.specs.declared.goal.Goal.{Goal}
use Rattle.taint_flow.specs.declared.moves.UnitMoves.{UnitMoves}
use Rattle.taint_flow.specs.declared.tables.SetTables.{SetTables}
use Rattle.taint_tables.specs.declared.sets.TaintSets.{TaintSets}
use Rattle.taint_tables.specs.PlacesOf.{ArePlacesOf}
use Rattle.taint_flow.specs.Taint.{HitsAt}

-- the points and facts of the goals of a sink
abbrev pub goals_of : ℕ → List Goal → List (ℕ × ℕ)
goals_of sink goals = map (λ (g : Goal). (g.point, g.fact)) (filter (λ (g : Goal). g.sink == sink) goals)

-- a path of points on which the source hits the range at the last one
pub record IsHitPath (root : Node) (unit : ℕ) (sets : TaintSets) (source range : Span) (path : List Point) : Type 0 where
  pub earlier : List Point
  pub last : Point
  pub whole : path ≡ reverse (last ∷ earlier)
  pub hits : HitsAt root unit sets source range earlier last

-- the traces to a sink's goals are the paths on which it is hit: places in the list of points stand for points
abbrev pub TracesAreHits : Node → ℕ → TaintSets → Span → Graph → UnitMoves → Type 0
TracesAreHits root unit sets source graph m =
    (sink : ℕ) (range : Span) (places : List ℕ) → slice_get sets.sinks sink ≡ Some range
    → IsTrace graph m.moves (goals_of sink m.goals) places ↔ ((path : List Point) × (map (slice_get graph.points) places ≡ map Some path) × IsHitPath root unit sets source range path)

-- goals are of points and facts that are there
abbrev pub AreGoals : Graph → UnitMoves → Type 0
AreGoals graph m = (g : Goal) → Among m.goals g → (g.point < length graph.points) × (g.fact < m.moves.facts)

-- what the tables have is what the sets have
pub record AreTablesOf (sets : TaintSets) (tables : SetTables) : Type 0 where
  pub sanitizers : Holds tables.sanitizers sets.sanitizers
  pub places : ArePlacesOf sets tables.places
