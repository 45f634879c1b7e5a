-- Which sinks are hit by which sources, on some path from the entry of some unit.
use Rattle.std.specs.Prelude.{◌≡◌, ◌⊎◌, ◌<◌, ◌≤◌, ℕ, List, [], ◌∷◌, slice_get, Some}
use Rattle.std.specs.List.{flat_map}
use Rattle.node_tree.specs.declared.node.Node.{Node}
use Rattle.node_tree.specs.declared.span.Span.{Span}
use Rattle.node_tree.specs.Numbers.{Numbered}
use Rattle.node_tree.specs.Tree.{pre_of, text_of, span_of}
use Rattle.graph_form.specs.declared.graph.Point.{Point}
use Rattle.graph_form.specs.Sets.{Among}
use Rattle.flow_graph.specs.Units.{units_of, points_of, entry_of, Goes, InOrder}
use Rattle.point_nodes.specs.Tops.{tops_of}
use Rattle.assignments.specs.Declarators.{parameters_of}
use Rattle.taint_flow.specs.declared.hit.TaintHit.{TaintHit}
use Rattle.taint_tables.specs.declared.sets.TaintSets.{TaintSets}
use Rattle.taint_form.specs.Expressions.{outermost}
use Rattle.taint_plan.specs.Spreading.{After, Tainted}

-- these points of the unit, the last one first, lead from its entry to the point
abbrev pub IsPath : Node → ℕ → List Point → Point → Type 0
IsPath root unit [] p = p ≡ entry_of unit
IsPath root unit (last ∷ earlier) p = IsPath root unit earlier last × Among (points_of root unit) p × Goes root unit last p

-- a parameter that is the source is tainted from the entry on
abbrev pub AtEntry : Node → ℕ → Span → List ℕ → Type 0
AtEntry root unit source n = (s : Numbered) × Among (parameters_of (pre_of root) unit) s × (span_of s.node ≡ source) × (text_of s.node ≡ n)

-- the names that are tainted after these points, the last one first
abbrev pub Left : Node → ℕ → TaintSets → Span → List Point → List ℕ → Type 0
Left root unit sets source [] = AtEntry root unit source
Left root unit sets source (last ∷ earlier) = After (pre_of root) sets source (Left root unit sets source earlier) last

-- at the end of the path one of the outermost expressions of the point in the range is tainted
pub record HitsAt (root : Node) (unit : ℕ) (sets : TaintSets) (source range : Span) (earlier : List Point) (p : Point) : Type 0 where
  pub path : IsPath root unit earlier p
  pub expression : Node
  pub outer : Among (flat_map (λ top. outermost range top.node) (tops_of (pre_of root) p)) expression
  pub tainted : Tainted sets source (Left root unit sets source earlier) expression

-- the source hits what stands in the range on some path in some unit
pub record Hit (root : Node) (sets : TaintSets) (range source : Span) : Type 0 where
  pub listed : Among sets.sources source
  pub unit : ℕ
  pub unit_is : Among (units_of root) unit
  pub earlier : List Point
  pub point : Point
  pub hits : HitsAt root unit sets source range earlier point

-- by where they begin, and then by where they end
abbrev pub IsUpTo : Span → Span → Type 0
IsUpTo a b = (a.from < b.from) ⊎ ((a.from ≡ b.from) × (a.to ≤ b.to))

-- the source hits the range, and no source before it does
pub record IsLeastSource (root : Node) (sets : TaintSets) (range source : Span) : Type 0 where
  pub hits : Hit root sets range source
  pub least : (other : Span) → Hit root sets range other → IsUpTo source other

-- one hit for each sink that has one, in the order of sinks, each with the least source
pub record AreHits (root : Node) (sets : TaintSets) (hits : List TaintHit) : Type 0 where
  pub each : (hit : TaintHit) → Among hits hit → (range : Span) × (slice_get sets.sinks hit.sink ≡ Some range) × IsLeastSource root sets range hit.source
  pub all : (sink : ℕ) (range source : Span) → slice_get sets.sinks sink ≡ Some range → Hit root sets range source → (hit : TaintHit) × Among hits hit × (hit.sink ≡ sink)
  pub order : InOrder (λ (a b : TaintHit). a.sink < b.sink) hits
