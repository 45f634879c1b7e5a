-- In which units a span stands.
use Rattle.std.specs.Prelude.{◌≡◌, ◌↔◌, ℕ, List, Some, slice_get}
use Rattle.std.specs.List.Sorted.{IsNonDecreasing, IsSorted, IsSortedByKey}
use Rattle.std.specs.Ordering.{ordering_index}
use Rattle.node_tree.specs.declared.node.Node.{Node}
use Rattle.node_tree.specs.declared.span.Span.{Span}
use Rattle.node_tree.specs.Span.{span_cmp}
use Rattle.node_tree.specs.Tree.{pre_of}
use Rattle.graph_form.specs.Sets.{Among}
use Rattle.flow_graph.specs.Units.{units_of, points_of}
use Rattle.unit_names.specs.declared.scope.Scope.{Scope}
use Rattle.taint_tables.specs.Names.{spans_among}
use Rattle.taint_flow.specs.declared.tables.SetTables.{SetTables}
use Rattle.taint_flow.specs.Traces.{AreTablesOf}
use Rattle.taint_judge.specs.declared.sets.RuleSets.{RuleSets}
use Rattle.taint_trace.specs.declared.standing.Standing.{Standing}

-- an expression or a parameter of the unit with that place has the span
pub record StandsAt (root : Node) (span : Span) (place : ℕ) : Type 0 where
  pub unit : ℕ
  pub unit_is : slice_get (units_of root) place ≡ Some unit
  pub there : Among (spans_among (pre_of root) unit (points_of root unit)) span

-- the same of units with their graphs
pub record StandsIn (nodes : List Node) (units : List Scope) (s : Standing) : Type 0 where
  pub scope : Scope
  pub scope_is : slice_get units s.place ≡ Some scope
  pub there : Among (spans_among nodes scope.unit scope.graph.points) s.span

abbrev pub standing : Span → ℕ → Standing
standing span place = record { span = span; place = place }

abbrev pub AreInOrder : List Standing → Type 0
AreInOrder = IsSortedByKey (λ (s : Standing). s.span) span_cmp

-- whether it stands before those of the span, among them, or behind them
abbrev pub side_of : Span → Standing → ℕ
side_of span s = ordering_index (span_cmp s.span span)

-- all spans that stand in the units of the tree, in order
pub record AreStandings (root : Node) (standings : List Standing) : Type 0 where
  pub exact : (s : Standing) → Among standings s ↔ StandsAt root s.span s.place
  pub ordered : AreInOrder standings

-- the places of the units in which the span stands, in order
pub record AreUnitsWith (root : Node) (span : Span) (places : List ℕ) : Type 0 where
  pub exact : (k : ℕ) → Among places k ↔ StandsAt root span k
  pub ordered : IsNonDecreasing places

-- the tables are those of the sets, whose sinks stand in order
pub record AreReady (sets : RuleSets) (tables : SetTables) : Type 0 where
  pub tables_are : AreTablesOf sets.ranges tables
  pub ordered : IsSorted span_cmp sets.ranges.sinks
