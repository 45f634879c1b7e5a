-- Lists of goals that grow.
use Rattle.std.proofs.Common.{◌≡◌, ◌⊎◌, ◌↔◌, inl, inr, ℕ, List, [], ◌∷◌, ◌++◌, refl, sym, ap, ◌∙◌, subst}
use Rattle.std.specs.Prelude.{Some, slice_get}
use Rattle.node_tree.specs.declared.node.Node.{Node}
use Rattle.node_tree.specs.declared.span.Span.{Span}
use Rattle.node_tree.specs.Numbers.{Numbered}
use Rattle.graph_form.specs.declared.graph.Point.{Point}
use Rattle.graph_form.specs.Sets.{Among}
use Rattle.graph_form.proofs.Amongs.{among_push}
use Rattle.point_nodes.specs.Tops.{tops_of}
use Rattle.taint_plan.specs.declared.goal.Goal.{Goal}
use Rattle.taint_tables.specs.declared.sink.Sink.{Sink}
use Rattle.taint_tables.specs.Numbers.{Numbering}
use Rattle.taint_tables.specs.Taints.{Taints}
use Rattle.taint_plan.specs.SinkGoals.{AtPoints, IsGoal, IsGoalAt, IsGoalBy, IsOf, TaintsAny, outermost_among}
use Rattle.taint_tables.specs.Sinks.{IsSinkOf}

-- a goal is pushed
pub goal_pushed : (old new : List Goal) (sink point fact : ℕ) → new ≡ old ++ record { sink = sink; point = point; fact = fact } ∷ [] → (g : Goal) → Among new g ↔ (Among old g ⊎ IsOf sink point (λ f. fact ≡ f) g)
goal_pushed old new sink point fact is g =
    let one : Goal = record { sink = sink; point = point; fact = fact } in
    let p = among_push old one g in
    let P : List Goal → Type 0 = λ xs. Among xs g ↔ (Among old g ⊎ IsOf sink point (λ f. fact ≡ f) g) in
    subst P (sym is) (
      λ h. elim (p.0 h) [ inl a ↦ inl a | inr e ↦ inr (sym (ap (λ (z : Goal). z.sink) e), sym (ap (λ (z : Goal). z.point) e), ap (λ (z : Goal). z.fact) e) ],
      λ h. p.1 (elim h [ inl a ↦ inl a | inr (s, q, f) ↦ inr (let r = sym s in let t = sym q in λ i. record { sink = r i; point = t i; fact = f i }) ]),
    )

-- goals with one fact or another
pub of_either : (sink point : ℕ) (A B C : ℕ → Type 0) → ((f : ℕ) → C f ↔ (A f ⊎ B f)) → (g : Goal) → IsOf sink point C g ↔ (IsOf sink point A g ⊎ IsOf sink point B g)
of_either sink point A B C all g = (
  λ (s, p, c). elim ((all g.fact).0 c) [ inl a ↦ inl (s, p, a) | inr b ↦ inr (s, p, b) ],
  λ h. elim h [ inl (s, p, a) ↦ (s, p, (all g.fact).1 (inl a)) | inr (s, p, b) ↦ (s, p, (all g.fact).1 (inr b)) ],
)

pub of_same : (sink point : ℕ) (A B : ℕ → Type 0) → ((f : ℕ) → A f ↔ B f) → (g : Goal) → IsOf sink point A g ↔ IsOf sink point B g
of_same sink point A B all g = (λ (s, p, a). (s, p, (all g.fact).0 a), λ (s, p, b). (s, p, (all g.fact).1 b))

-- one node more
pub taints_more : (spans : List Span) (numbers : Numbering) (xs ys : List Node) (y : Node) → ((x : Node) → Among ys x ↔ (Among xs x ⊎ (y ≡ x))) → (f : ℕ) → TaintsAny spans numbers ys f ↔ (TaintsAny spans numbers xs f ⊎ Taints spans numbers y f)
taints_more spans numbers xs ys y split f = (
  λ (e, among, t). elim ((split e).0 among) [
    | inl a ↦ inl (e, a, t)
    | inr q ↦ inr (let P : Node → Type 0 = λ z. Taints spans numbers z f in subst P (sym q) t)
  ],
  λ h. elim h [ inl (e, a, t) ↦ (e, (split e).1 (inl a), t) | inr t ↦ (y, (split y).1 (inr refl), t) ],
)

-- one sink more
pub goals_by_more : (spans : List Span) (numbers : Numbering) (tops : List Numbered) (point : ℕ) (xs ys : List Sink) (y : Sink) → ((x : Sink) → Among ys x ↔ (Among xs x ⊎ (y ≡ x))) → (g : Goal)
    → ((g.point ≡ point) × IsGoalBy spans ys numbers tops g.sink g.fact) ↔ (((g.point ≡ point) × IsGoalBy spans xs numbers tops g.sink g.fact) ⊎ IsOf y.place point (TaintsAny spans numbers (outermost_among y.range tops)) g)
goals_by_more spans numbers tops point xs ys y split g = (
  λ (p, (s, among, place, t)). elim ((split s).0 among) [
    | inl a ↦ inl (p, (s, a, place, t))
    | inr e ↦ inr (let P : Sink → Type 0 = λ z. IsOf z.place point (TaintsAny spans numbers (outermost_among z.range tops)) g in subst P (sym e) (sym place, p, t))
  ],
  λ h. elim h [
    | inl (p, (s, a, place, t)) ↦ (p, (s, (split s).1 (inl a), place, t))
    | inr (sink, p, t) ↦ (p, (y, (split y).1 (inr refl), sym sink, t))
  ],
)

-- sinks that hold no expression give no goal
pub goals_by_some : (spans : List Span) (numbers : Numbering) (tops : List Numbered) (found all : List Sink) → ((s : Sink) → Among found s → Among all s) → ((s : Sink) → Among all s → (e : Node) → Among (outermost_among s.range tops) e → Among found s)
    → (sink fact : ℕ) → IsGoalBy spans found numbers tops sink fact ↔ IsGoalBy spans all numbers tops sink fact
goals_by_some spans numbers tops found all only most sink fact = (
  λ (s, a, place, t). (s, only s a, place, t),
  λ (s, a, place, (e, among, t)). (s, most s a e among, place, (e, among, t)),
)

-- sinks by their places
goals_at : (spans sinks : List Span) (numbers : Numbering) (tops : List Numbered) (all : List Sink) → ((s : Sink) → Among all s ↔ IsSinkOf sinks s) → (sink fact : ℕ) → IsGoalBy spans all numbers tops sink fact ↔ IsGoalAt spans sinks numbers tops sink fact
goals_at spans sinks numbers tops all listed sink fact = (
  λ (s, a, place, t). (s.range, ap (slice_get sinks) (sym place) ∙ (listed s).0 a, t),
  λ (range, got, t). (let s : Sink = record { place = sink; range = range } in (s, (listed s).1 got, refl, t)),
)

-- one point more
pub points_more : (Gives : Point → ℕ → ℕ → Type 0) (i : ℕ) (x : Point) (xs ys : List Point) → ((k : ℕ) (p : Point) → (slice_get ys k ≡ Some p) ↔ ((slice_get xs k ≡ Some p) ⊎ ((k ≡ i) × (x ≡ p))))
    → (g : Goal) → AtPoints Gives ys g ↔ (AtPoints Gives xs g ⊎ ((g.point ≡ i) × Gives x g.sink g.fact))
points_more Gives i x xs ys split g = (
  λ (p, got, gives). elim ((split g.point p).0 got) [
    | inl a ↦ inl (p, a, gives)
    | inr (e, q) ↦ inr (e, let P : Point → Type 0 = λ z. Gives z g.sink g.fact in subst P (sym q) gives)
  ],
  λ h. elim h [
    | inl (p, a, gives) ↦ (p, (split g.point p).1 (inl a), gives)
    | inr (e, gives) ↦ (x, (split g.point x).1 (inr (e, refl)), gives)
  ],
)

-- the goals of sinks by their places
pub goals_are : (spans sinks : List Span) (numbers : Numbering) (nodes : List Node) (points : List Point) (all : List Sink) → ((s : Sink) → Among all s ↔ IsSinkOf sinks s) → (g : Goal)
    → AtPoints (λ p. IsGoalBy spans all numbers (tops_of nodes p)) points g ↔ IsGoal nodes points spans sinks numbers g
goals_are spans sinks numbers nodes points all listed g = (
  λ (p, got, by). (p, got, (goals_at spans sinks numbers (tops_of nodes p) all listed g.sink g.fact).0 by),
  λ (p, got, at). (p, got, (goals_at spans sinks numbers (tops_of nodes p) all listed g.sink g.fact).1 at),
)
