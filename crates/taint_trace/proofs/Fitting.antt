-- A unit in which a source stands is small enough for it alone.
use Rattle.std.proofs.Common.{◌≡◌, ℕ, ◌+◌, ◌*◌, ◌<◌, ◌≤◌, Bool, true, false, List, [], ◌∷◌, length, sym, ap, ◌∙◌, subst, arith, Some}
use Rattle.std.specs.Prelude.{cond, slice_get}
use Rattle.std.specs.Set.{distinct_count, unique_keys, is_member}
use Rattle.std.specs.Str.{bytes_eq}
use Rattle.std.proofs.Math.Nat.{mul-le-mul_left, le-mul_of_pos_right}
use Rattle.node_tree.specs.declared.node.Node.{Node}
use Rattle.node_tree.specs.declared.span.Span.{Span}
use Rattle.node_tree.specs.Tree.{pre_of}
use Rattle.graph_form.specs.declared.graph.Graph.{Graph}
use Rattle.graph_form.specs.Sets.{Among}
use Rattle.flow_graph.specs.Units.{units_of, points_of, Goes, IsGraphOf}
use Rattle.flow_reach.proofs.Sorted.{got_among}
use Rattle.taint_form.specs.Expressions.{same_span, has_span}
use Rattle.taint_tables.specs.declared.sets.TaintSets.{TaintSets}
use Rattle.taint_flow.specs.Sizes.{same_point, names_of, sources_of, size_of, NoneLarge}
use Rattle.taint_tables.specs.Names.{spans_among}
use Rattle.taint_flow.proofs.Counted.{among_filter, points_counted}
use Rattle.taint_flow.proofs.Searching.{has_spans}
use Rattle.taint_trace.specs.Standings.{StandsAt}
use Rattle.taint_trace.specs.Trace.{IsSmall}

some_key : {K : Type 0} (eq : K → K → Bool) (z : K) (zs : List K) → 0 < distinct_count eq (z ∷ zs)
some_key eq z [] = omega arith
some_key eq z (w ∷ ws) = by (some_key eq w ws) (is_member eq (w ∷ ws) z)
  where
    by : 0 < length (unique_keys eq (w ∷ ws)) → (b : Bool) → 0 < length (cond b (unique_keys eq (w ∷ ws)) (z ∷ unique_keys eq (w ∷ ws)))
    by some true = some
    by some false = omega arith

some_different : {K : Type 0} (eq : K → K → Bool) (xs : List K) (x : K) → Among xs x → 0 < distinct_count eq xs
some_different eq [] x none = absurd none
some_different eq (y ∷ ys) x among = some_key eq y ys

less_facts : (points names sources : ℕ) → 0 < sources → points * (names * sources + 1) ≤ 50000000 → points * (names + 1) ≤ 50000000
less_facts points names sources some all =
    let more : names ≤ names * sources = le-mul_of_pos_right names some in
    let one : names + 1 ≤ names * sources + 1 = omega (arith, more) in
    let fewer : points * (names + 1) ≤ points * (names * sources + 1) = mul-le-mul_left points one in
    omega (arith, fewer, all)

module _ (root : Node) (unit : ℕ) (sets : TaintSets) (source : Span) where
  -- the unit has points and facts of one source few enough
  pub small : Among sets.sources source → Among (spans_among (pre_of root) unit (points_of root unit)) source → size_of root unit sets ≤ 50000000 → IsSmall root unit
  small listed there fits =
      let among = (among_filter (has_span sets.sources) (spans_among (pre_of root) unit (points_of root unit)) source).1 (there, has_spans sets.sources source listed) in
      less_facts (distinct_count same_point (points_of root unit)) (distinct_count bytes_eq (names_of root unit)) (distinct_count same_span (sources_of root unit sets)) (some_different same_span (sources_of root unit sets) source among) fits

-- a unit in which the source stands is small enough
pub small_at : (root : Node) (sets : TaintSets) (source : Span) (place unit : ℕ) → StandsAt root source place → slice_get (units_of root) place ≡ Some unit → Among sets.sources source → NoneLarge root sets → IsSmall root unit
small_at root sets source place unit stands got listed fits =
    let same : stands.unit ≡ unit = (let e : Some stands.unit ≡ Some unit = sym stands.unit_is ∙ got in cc) in
    let There : ℕ → Type 0 = λ u. Among (spans_among (pre_of root) u (points_of root u)) source in
    small root unit sets source listed (subst There same stands.there) (fits unit (got_among (units_of root) place unit got))

-- its moves aren't too large
pub never_large : (root : Node) (unit : ℕ) (graph : Graph) → IsGraphOf (points_of root unit) (Goes root unit) graph → (facts : ℕ) → facts ≡ distinct_count bytes_eq (names_of root unit) + 1 → IsSmall root unit → 50000000 < length graph.points * facts → ⊥
never_large root unit graph is facts facts_are small large =
    let points = distinct_count same_point (points_of root unit) in
    let same : length graph.points * facts ≡ points * (distinct_count bytes_eq (names_of root unit) + 1) =
    ap (λ x. x * facts) (points_counted root unit (Goes root unit) graph is) ∙ ap (λ x. points * x) facts_are in
    omega (arith, same, small, large)
