-- Spans that stand in units.
use Rattle.std.proofs.Common.{◌≡◌, ◌↔◌, ◌⊎◌, inl, inr, ℕ, ◌+◌, ◌<◌, List, [], ◌∷◌, ◌++◌, length, map, take, get_or, refl, sym, ap, ◌∙◌, subst}
use Rattle.std.specs.List.Sorted.{IsPermutation}
use Rattle.node_tree.specs.declared.node.Node.{Node}
use Rattle.node_tree.specs.declared.span.Span.{Span}
use Rattle.node_tree.specs.Tree.{pre_of}
use Rattle.graph_form.specs.Sets.{Among}
use Rattle.graph_form.proofs.Amongs.{among_push, among_more, same_items}
use Rattle.flow_graph.specs.Units.{points_of}
use Rattle.unit_names.specs.declared.scope.Scope.{Scope}
use Rattle.unit_names.specs.Scopes.{AreScopes}
use Rattle.taint_tables.specs.Names.{spans_among}
use Rattle.taint_tables.proofs.ItemPlaces.{got_more}
use Rattle.taint_flow.proofs.Counted.{spans_same}
use Rattle.taint_trace.specs.declared.standing.Standing.{Standing}
use Rattle.taint_trace.specs.Standings.{StandsAt, StandsIn, standing}
use Rattle.taint_trace.proofs.Sought.{unit_at, graph_at, scope_at}

pub among_map : {X Y : Type 0} (f : X → Y) (xs : List X) (y : Y) → Among (map f xs) y ↔ ((x : X) × Among xs x × (f x ≡ y))
among_map f [] y = (λ h. absurd h, λ (x, none, e). absurd none)
among_map f (x ∷ xs) y =
    let rest = among_map f xs y in (
      λ h. elim h [ inl e ↦ (x, inl refl, e) | inr more ↦ (let (z, there, e) = rest.0 more in (z, inr there, e)) ],
      λ (z, among, e). elim among [ inl same ↦ inl (ap f same ∙ e) | inr more ↦ inr (rest.1 (z, more, e)) ],
    )

-- the places of those of the span, in another order
pub places_are : (span : Span) (all found : List Standing) (places sorted : List ℕ) → ((s : Standing) → Among found s ↔ (Among all s × (s.span ≡ span))) → places ≡ map (λ (s : Standing). s.place) found → IsPermutation places sorted → (k : ℕ) → Among sorted k ↔ Among all (standing span k)
places_are span all found places sorted these are moved k =
    let same = same_items places sorted moved k in
    let m = among_map (λ (s : Standing). s.place) found k in
    let In : List ℕ → Type 0 = λ ps. Among ps k in
    let All : Standing → Type 0 = Among all in (
      λ h. (
          let (s, there, place) = m.0 (subst In are (same.0 h)) in
          let (among, its) = (these s).0 there in
          let one : s ≡ standing span k = λ i. record { span = its i; place = place i } in
          subst All one among
          ),
      λ h. same.1 (subst In (sym are) (m.1 (standing span k, (these (standing span k)).1 (h, refl), refl))),
    )

-- a span more with its place
pub standing_more : (spans : List Span) (i : ℕ) (d : Span) (place : ℕ) (first old new : List Standing) → i < length spans → ((s : Standing) → Among old s ↔ (Among first s ⊎ ((s.place ≡ place) × Among (take i spans) s.span))) → new ≡ old ++ standing (get_or spans i d) place ∷ []
    → (s : Standing) → Among new s ↔ (Among first s ⊎ ((s.place ≡ place) × Among (take (i + 1) spans) s.span))
standing_more spans i d place first old new lt all is s =
    let one = standing (get_or spans i d) place in
    let p = among_push old one s in
    let m = among_more spans i d lt s.span in
    let P : List Standing → Type 0 = λ xs. Among xs s ↔ (Among first s ⊎ ((s.place ≡ place) × Among (take (i + 1) spans) s.span)) in
    subst P (sym is) (
      λ h. elim (p.0 h) [
        | inl before ↦ elim ((all s).0 before) [ inl a ↦ inl a | inr b ↦ inr (b.0, m.1 (inl b.1)) ]
        | inr e ↦ inr (sym (ap (λ (z : Standing). z.place) e), m.1 (inr (ap (λ (z : Standing). z.span) e)))
      ],
      λ h. elim h [
        | inl a ↦ p.1 (inl ((all s).1 (inl a)))
        | inr b ↦ elim (m.0 b.1) [
          | inl before ↦ p.1 (inl ((all s).1 (inr (b.0, before))))
          | inr e ↦ p.1 (inr (let r = sym b.0 in λ j. record { span = e j; place = r j }))
        ]
      ],
    )

-- a unit more
pub unit_more : (nodes : List Node) (units : List Scope) (i : ℕ) (unit : Scope) (old new : List Standing) → i < length units → unit ≡ get_or units i unit → ((s : Standing) → Among old s ↔ StandsIn nodes (take i units) s)
    → ((s : Standing) → Among new s ↔ (Among old s ⊎ ((s.place ≡ i) × Among (spans_among nodes unit.unit unit.graph.points) s.span))) → (s : Standing) → Among new s ↔ StandsIn nodes (take (i + 1) units) s
unit_more nodes units i unit old new lt is all more s =
    let g = λ (x : Scope). got_more units i unit lt s.place x in
    let Spans : Scope → Type 0 = λ x. Among (spans_among nodes x.unit x.graph.points) s.span in (
      λ h. elim ((more s).0 h) [
        | inl before ↦ (let b = (all s).0 before in record { scope = b.scope; scope_is = (g b.scope).1 (inl b.scope_is); there = b.there })
        | inr here ↦ record { scope = unit; scope_is = (g unit).1 (inr (here.0, sym is)); there = here.1 }
      ],
      λ h. elim ((g h.scope).0 h.scope_is) [
        | inl before ↦ (more s).1 (inl ((all s).1 (record { scope = h.scope; scope_is = before; there = h.there })))
        | inr here ↦ (more s).1 (inr (here.0, subst Spans (sym (is ∙ here.1)) h.there))
      ],
    )

-- by the units' graphs, and by the units
pub stands : (root : Node) (nodes : List Node) (units : List Scope) → nodes ≡ pre_of root → AreScopes root units → (s : Standing) → StandsIn nodes units s ↔ StandsAt root s.span s.place
stands root nodes units nodes_are are s = (
  λ h. (
      let Spans : List Node → Type 0 = λ ns. Among (spans_among ns h.scope.unit h.scope.graph.points) s.span in
      record {
        unit = h.scope.unit;
        unit_is = unit_at root units are s.place h.scope h.scope_is;
        there = (spans_same root h.scope.unit h.scope.graph (graph_at root units are s.place h.scope h.scope_is) s.span).0 (subst Spans nodes_are h.there);
      }
      ),
  λ h. (
      let (scope, got, same) = scope_at root units are s.place h.unit h.unit_is in
      let Spans : List Node → Type 0 = λ ns. Among (spans_among ns scope.unit scope.graph.points) s.span in
      let In : ℕ → Type 0 = λ unit. Among (spans_among (pre_of root) unit (points_of root unit)) s.span in
      record {
        scope = scope;
        scope_is = got;
        there = subst Spans (sym nodes_are) ((spans_same root scope.unit scope.graph (graph_at root units are s.place scope got) s.span).1 (subst In (sym same) h.there));
      }
      ),
)
