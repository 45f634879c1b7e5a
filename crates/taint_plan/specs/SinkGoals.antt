-- The goals of sinks at points.
use Rattle.std.specs.Prelude.{◌≡◌, ℕ, List, slice_get, Some}
use Rattle.std.specs.List.{flat_map}
use Rattle.node_tree.specs.declared.node.Node.{Node}
use Rattle.node_tree.specs.declared.span.Span.{Span}
use Rattle.node_tree.specs.Numbers.{Numbered}
use Rattle.graph_form.specs.declared.graph.Point.{Point}
use Rattle.graph_form.specs.Sets.{Among}
use Rattle.point_nodes.specs.Tops.{tops_of}
use Rattle.taint_form.specs.Expressions.{outermost}
use Rattle.taint_plan.specs.declared.goal.Goal.{Goal}
use Rattle.taint_tables.specs.declared.sink.Sink.{Sink}
use Rattle.taint_tables.specs.Numbers.{Numbering}
use Rattle.taint_tables.specs.Taints.{Taints}

-- the outermost of the expressions in these nodes that lie in a range
abbrev pub outermost_among : Span → List Numbered → List Node
outermost_among range = flat_map (λ (top : Numbered). outermost range top.node)

-- the fact taints one of these nodes
abbrev pub TaintsAny : List Span → Numbering → List Node → ℕ → Type 0
TaintsAny sanitizers numbers nodes fact = (e : Node) × Among nodes e × Taints sanitizers numbers e fact

-- the fact taints an outermost expression in the range of that sink, in the nodes with these tops
abbrev pub IsGoalAt : List Span → List Span → Numbering → List Numbered → ℕ → ℕ → Type 0
IsGoalAt sanitizers sinks numbers tops sink fact = (range : Span) × (slice_get sinks sink ≡ Some range) × TaintsAny sanitizers numbers (outermost_among range tops) fact

-- the same for sinks with their places
abbrev pub IsGoalBy : List Span → List Sink → Numbering → List Numbered → ℕ → ℕ → Type 0
IsGoalBy sanitizers sinks numbers tops sink fact = (s : Sink) × Among sinks s × (s.place ≡ sink) × TaintsAny sanitizers numbers (outermost_among s.range tops) fact

-- the goal's sink and fact are given at the goal's point
abbrev pub AtPoints : (Point → ℕ → ℕ → Type 0) → List Point → Goal → Type 0
AtPoints Gives points g = (p : Point) × (slice_get points g.point ≡ Some p) × Gives p g.sink g.fact

-- the goal's fact taints an outermost expression of its point in the range of its sink
abbrev pub IsGoal : List Node → List Point → List Span → List Span → Numbering → Goal → Type 0
IsGoal nodes points sanitizers sinks numbers = AtPoints (λ p. IsGoalAt sanitizers sinks numbers (tops_of nodes p)) points

-- the goal is of that sink and that point, with one of these facts
abbrev pub IsOf : ℕ → ℕ → (ℕ → Type 0) → Goal → Type 0
IsOf sink point Fact g = (g.sink ≡ sink) × (g.point ≡ point) × Fact g.fact
