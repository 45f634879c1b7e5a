-- Where there are no sources or no sinks nothing is hit, and a tree with few points and names has no unit that is too large.
use Rattle.std.proofs.Common.{◌≡◌, inl, inr, ℕ, ◌+◌, ◌*◌, ◌<◌, ◌≤◌, Bool, true, false, not, List, [], length, Some, sym, ap, subst, arith}
use Rattle.std.specs.Prelude.{◌⊎◌, IsTrue, slice_get}
use Rattle.std.proofs.lemmas.Bool.{cases_lt}
use Rattle.std.specs.List.{sum_by}
use Rattle.std.specs.Set.{distinct_count}
use Rattle.std.specs.Str.{bytes_eq}
use Rattle.std.proofs.Math.Nat.{mul-le-mul}
use Rattle.std.proofs.lemmas.Map.Made.{distinct_count-le}
use Rattle.node_tree.specs.declared.node.Node.{Node}
use Rattle.node_tree.specs.declared.span.Span.{Span}
use Rattle.node_tree.specs.Tree.{pre_of}
use Rattle.graph_form.specs.Sets.{Among}
use Rattle.flow_graph.specs.Units.{points_of}
use Rattle.taint_form.specs.Expressions.{same_span, has_span}
use Rattle.taint_tables.specs.Names.{spans_among}
use Rattle.taint_tables.specs.declared.sets.TaintSets.{TaintSets}
use Rattle.taint_flow.specs.declared.sizes.Bounds.{Bounds}
use Rattle.taint_flow.specs.Bounds.{AreBounds, AreCounted, points_at, names_at}
use Rattle.taint_flow.specs.Sizes.{same_point, names_of, sources_of, size_of, NoneLarge}
use Rattle.taint_flow.specs.Taint.{AreHits}
use Rattle.taint_flow.proofs.Counted.{among_filter, counted_within, spans_tell}
use Rattle.taint_flow.proofs.NameCounts.{names_few}
use Rattle.taint_flow.proofs.PointCounts.{unit_few}
use Rattle.taint_flow.proofs.Searching.{spans_has}

pub are_bounds : (root : Node) (bounds : Bounds) → AreCounted (pre_of root) bounds → AreBounds root bounds
are_bounds root bounds are = record {
  points = λ unit. omega (arith, are.points, distinct_count-le same_point (points_of root unit), unit_few root unit);
  names = λ unit. omega (arith, are.names, names_few root unit);
}

-- a unit has at most as many sources as are looked for
sources_few : (root : Node) (unit : ℕ) (sets : TaintSets) → distinct_count same_span (sources_of root unit sets) ≤ length sets.sources
sources_few root unit sets = counted_within same_span spans_tell (sources_of root unit sets) sets.sources (λ s there. spans_has sets.sources s ((among_filter (has_span sets.sources) (spans_among (pre_of root) unit (points_of root unit)) s).0 there).1)

pub none_large : (root : Node) (bounds : Bounds) (sets : TaintSets) → AreBounds root bounds → (bounds.points + 2) * (bounds.names * length sets.sources + 1) ≤ 50000000 → NoneLarge root sets
none_large root bounds sets are few unit among =
    let names = mul-le-mul (are.names unit) (sources_few root unit sets) in
    let facts : distinct_count bytes_eq (names_of root unit) * distinct_count same_span (sources_of root unit sets) + 1 ≤ bounds.names * length sets.sources + 1 = omega (arith, names) in
    omega (arith, mul-le-mul (are.points unit) facts, few)

-- what isn't over the limit is within it
pub within_limit : (large : Bool) (size : ℕ) → (50000000 < size → IsTrue large) → IsTrue (not large) → size ≤ 50000000
within_limit true size over is = absurd cc
within_limit false size over is = elim (cases_lt 50000000 size) [ inl more ↦ (let q = over more in absurd cc) | inr few ↦ few ]

pub nothing_hit : (root : Node) (sets : TaintSets) → (sets.sources ≡ []) ⊎ (sets.sinks ≡ []) → AreHits root sets []
nothing_hit root sets none = record {
  each = λ hit among. absurd among;
  all = λ sink range source at hit. elim none [
    | inl e ↦ absurd (let P : List Span → Type 0 = λ xs. Among xs source in subst P e hit.listed)
    | inr e ↦ absurd (let P : List Span → Type 0 = λ xs. slice_get xs sink ≡ Some range in let q = subst P e at in cc)
  ];
  order = λ i j x y lt first second. absurd cc;
}
