-- A source that hits something stands in the unit.
use Rattle.std.proofs.Common.{◌≡◌, ◌⊎◌, inl, inr, ℕ, Bool, true, false, List, [], ◌∷◌, map, refl, sym, ap, ◌∙◌, subst, Some}
use Rattle.std.specs.Prelude.{Option, None, if◌then◌else◌, IsTrue}
use Rattle.std.specs.List.{flat_map}
use Rattle.node_tree.specs.declared.node.Node.{Node}
use Rattle.node_tree.specs.declared.span.Span.{Span}
use Rattle.node_tree.specs.Kinds.{is_expression}
use Rattle.node_tree.specs.Numbers.{Numbered}
use Rattle.node_tree.specs.Tree.{pre_of, kind_of, text_of, span_of}
use Rattle.graph_form.specs.declared.graph.Point.{Point}
use Rattle.graph_form.specs.Sets.{Among}
use Rattle.graph_form.proofs.Amongs.{among_app}
use Rattle.flow_graph.specs.Units.{points_of}
use Rattle.point_nodes.specs.Tops.{nodes_of, tops_of}
use Rattle.assignments.specs.Assignments.{assigned_of}
use Rattle.assignments.specs.Declarators.{parameters_of}
use Rattle.assignments.specs.Seen.{Assigned}
use Rattle.taint_tables.specs.declared.sets.TaintSets.{TaintSets}
use Rattle.taint_tables.specs.Names.{span_here, spans_at, spans_among}
use Rattle.taint_plan.specs.Spreading.{Tainted, Gives, AfterNode, AfterNodes, After}
use Rattle.taint_flow.specs.Taint.{AtEntry, Left, IsPath, HitsAt}
use Rattle.taint_flow.proofs.Assigned.{value_below}
use Rattle.taint_plan.proofs.Below.{among_flat, IsBelow, below_top, below_more, stands_below}
use Rattle.taint_flow.proofs.Exposed.{exposed_below}
use Rattle.taint_plan.proofs.Outermost.{outermost_below}
use Rattle.taint_flow.proofs.Spread.{path_there}

pub among_map : {X Y : Type 0} (f : X → Y) (xs : List X) (x : X) → Among xs x → Among (map f xs) (f x)
among_map f [] x none = absurd none
among_map f (z ∷ zs) x (inl e) = inl (ap f e)
among_map f (z ∷ zs) x (inr more) = inr (among_map f zs x more)

module _ (root : Node) (unit : ℕ) (sets : TaintSets) (source : Span) where
  -- it is the span of an expression at a point, or of a parameter
  abbrev pub IsThere : Type 0
  IsThere = Among (spans_among (pre_of root) unit (points_of root unit)) source

  spanned : (s : Numbered) → IsTrue (is_expression (kind_of s.node)) → span_of s.node ≡ source → Among (span_here s) source
  spanned s is e = by (is_expression (kind_of s.node)) is
    where
      by : (b : Bool) → IsTrue b → Among (if b then span_of s.node ∷ [] else []) source
      by true t = inl e
      by false none = absurd cc

  at_point : (p : Point) → Among (points_of root unit) p → (e : Node) → IsBelow (tops_of (pre_of root) p) e → IsTrue (is_expression (kind_of e)) → span_of e ≡ source → IsThere
  at_point p there e below is span =
      let (s, among, same) = stands_below (tops_of (pre_of root) p) e below in
      let K : Node → Type 0 = λ n. IsTrue (is_expression (kind_of n)) in
      let here = spanned s (subst K (sym same) is) (ap span_of same ∙ span) in
      let points = points_of root unit in
      (among_app (flat_map (spans_at (pre_of root)) points) (map (λ (t : Numbered). span_of t.node) (parameters_of (pre_of root) unit)) source).1
      (inl ((among_flat (spans_at (pre_of root)) points source).1 (p, there, (among_flat span_here (nodes_of (pre_of root) p) source).1 (s, among, here))))

  at_entry : (n : List ℕ) → AtEntry root unit source n → IsThere
  at_entry n (s, among, span, text) =
      let M : Span → Type 0 = λ x. Among (map (λ (t : Numbered). span_of t.node) (parameters_of (pre_of root) unit)) x in
      (among_app (flat_map (spans_at (pre_of root)) (points_of root unit)) (map (λ (t : Numbered). span_of t.node) (parameters_of (pre_of root) unit)) source).1
      (inr (subst M span (among_map (λ (t : Numbered). span_of t.node) (parameters_of (pre_of root) unit) s among)))

  -- it is there, or some name is tainted already
  abbrev Or : (List ℕ → Type 0) → Type 0
  Or N = IsThere ⊎ ((n : List ℕ) × N n)

  module _ (p : Point) (there : Among (points_of root unit) p) where
    in_value : (N : List ℕ → Type 0) (v : Node) → IsBelow (tops_of (pre_of root) p) v → Tainted sets source N v → Or N
    in_value N v below (e, among, inl span) = let r = exposed_below sets.sanitizers v e among in inl (at_point p there e (below_more (tops_of (pre_of root) p) v e below r.0) r.1 span)
    in_value N v below (e, among, inr (is, on)) = inr (text_of e, on)

    in_node : (N : List ℕ → Type 0) (a : Assigned) → Among (assigned_of (pre_of root) p) a → (n : List ℕ) → AfterNode sets source N a n → Or N
    in_node N a among n (inr (on, unrenewed)) = inr (n, on)
    in_node N a among n (inl (target, gives)) = by a.value refl gives
      where
        by : (value : Option Node) → a.value ≡ value → Gives sets source N value → Or N
        by None e none = absurd none
        by (Some v) e tainted = in_value N v (value_below (pre_of root) p a v among e) tainted

    in_nodes : (N : List ℕ → Type 0) (list : List Assigned) → ((a : Assigned) → Among list a → Among (assigned_of (pre_of root) p) a) → (n : List ℕ) → AfterNodes sets source N list n → Or N
    in_nodes N [] all n on = inr (n, on)
    in_nodes N (a ∷ more) all n after = elim (in_nodes (AfterNode sets source N a) more (λ b among. all b (inr among)) n after) [
      | inl is ↦ inl is
      | inr (m, on) ↦ in_node N a (all a (inl refl)) m on
    ]

    after_point : (N : List ℕ → Type 0) (n : List ℕ) → After (pre_of root) sets source N p n → Or N
    after_point N n (inl after) = in_nodes N (assigned_of (pre_of root) p) (λ a among. among) n after
    after_point N n (inr (c, among, carries)) = in_value N carries.from.node (below_top (tops_of (pre_of root) p) carries.from carries.from_is.there) carries.tainted

  left_there : (earlier : List Point) (p : Point) → IsPath root unit earlier p → (n : List ℕ) → Left root unit sets source earlier n → IsThere
  left_there [] p path n left = at_entry n left
  left_there (last ∷ earlier) p (before, there, goes) n left = elim (after_point last (path_there root unit earlier last before) (Left root unit sets source earlier) n left) [
    | inl is ↦ is
    | inr (m, on) ↦ left_there earlier last before m on
  ]

  -- a source that hits something on a path stands in the unit
  pub source_there : (range : Span) (earlier : List Point) (p : Point) → HitsAt root unit sets source range earlier p → IsThere
  source_there range earlier p hits =
      let below = (outermost_below range (tops_of (pre_of root) p) hits.expression hits.outer).0 in
      elim (in_value p (path_there root unit earlier p hits.path) (Left root unit sets source earlier) hits.expression below hits.tainted) [
        | inl is ↦ is
        | inr (n, left) ↦ left_there earlier p hits.path n left
      ]
