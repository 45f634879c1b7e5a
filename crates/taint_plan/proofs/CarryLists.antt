-- What carries carry over, as lists of pairs.
use Rattle.std.proofs.Common.{◌≡◌, ◌⊎◌, ◌↔◌, inl, inr, ℕ, List, [], sym, ap, subst, refl, ◌∙◌}
use Rattle.node_tree.specs.declared.span.Span.{Span}
use Rattle.node_tree.specs.Numbers.{Numbered}
use Rattle.node_tree.specs.Tree.{span_of}
use Rattle.graph_form.specs.Sets.{Among}
use Rattle.flow_reach.proofs.Steps.{as_right}
use Rattle.taint_tables.specs.declared.sets.Carry.{Carry}
use Rattle.taint_tables.specs.Numbers.{Numbering}
use Rattle.taint_plan.specs.Facts.{CarriesFact}
use Rattle.taint_plan.specs.RowFacts.{Stands, TaintsOne, HasBaseFact, CarriesOver, CarriesAt, CarriesWithin}

pub only_added : (A : ℕ → Type 0) (old new : List ℕ) → old ≡ [] → ((f : ℕ) → Among new f ↔ (Among old f ⊎ A f)) → (f : ℕ) → Among new f ↔ A f
only_added A old new is all f =
    let P : List ℕ → Type 0 = λ xs. Among new f ↔ (Among xs f ⊎ A f) in
    let e = subst P is (all f) in
    (λ h. elim (e.0 h) [ inl none ↦ absurd none | inr a ↦ a ], λ a. e.1 (inr a))

pub carries_is : (sanitizers : List Span) (numbers : Numbering) (nodes : List Numbered) (c : Carry) (from to : ℕ)
    → CarriesFact sanitizers numbers nodes c from to ↔ (Stands nodes c.range × CarriesOver sanitizers numbers nodes c from to)
carries_is sanitizers numbers nodes c from to = (
  λ r. (
    (r.place, r.stands, r.range),
    ((r.source, r.source_is.there, ((r.source_is.expression, r.source_is.range_is), r.tainted)), (r.target, r.target_is.there, ((r.target_is.expression, r.target_is.range_is), (r.named, r.base, r.fact)))),
  ),
  λ ((place, stands, range), ((s, a, ((is, e), taints)), (t, b, ((its, f), (named, base, fact))))). record {
    place = place;
    stands = stands;
    range = range;
    source = s;
    source_is = record { there = a; expression = is; range_is = e };
    tainted = taints;
    target = t;
    target_is = record { there = b; expression = its; range_is = f };
    named = named;
    base = base;
    fact = fact;
  },
)

-- a carry adds its pairs
pub carry_added : (sanitizers : List Span) (numbers : Numbering) (nodes : List Numbered) (c : Carry) (sources firsts targets seconds : List ℕ) (old new : List (ℕ × ℕ)) → firsts ≡ sources → seconds ≡ targets
    → ((f : ℕ) → Among sources f ↔ TaintsOne sanitizers numbers nodes c.source f) → ((f : ℕ) → Among targets f ↔ HasBaseFact numbers nodes c.target f)
    → ((from to : ℕ) → Among new (from, to) ↔ (Among old (from, to) ⊎ (Among firsts from × Among seconds to))) → (from to : ℕ) → Among new (from, to) ↔ (Among old (from, to) ⊎ CarriesOver sanitizers numbers nodes c from to)
carry_added sanitizers numbers nodes c sources firsts targets seconds old new is its froms tos all from to =
    let A : List ℕ → Type 0 = λ xs. (f : ℕ) → Among xs f ↔ TaintsOne sanitizers numbers nodes c.source f in
    let B : List ℕ → Type 0 = λ xs. (f : ℕ) → Among xs f ↔ HasBaseFact numbers nodes c.target f in
    let a = subst A (sym is) froms from in
    let b = subst B (sym its) tos to in
    as_right _ _ _ _ (all from to) (λ (x, y). (a.0 x, b.0 y), λ (x, y). (a.1 x, b.1 y))

-- carries with a range, one more
pub at_more : (Over : Carry → ℕ → ℕ → Type 0) (range : Span) (xs ys : List Carry) (y : Carry) → ((c : Carry) → Among ys c ↔ (Among xs c ⊎ (y ≡ c))) → (from to : ℕ)
    → ((c : Carry) × Among ys c × (c.range ≡ range) × Over c from to) ↔ (((c : Carry) × Among xs c × (c.range ≡ range) × Over c from to) ⊎ ((y.range ≡ range) × Over y from to))
at_more Over range xs ys y split from to = (
  λ (c, among, is, over). elim ((split c).0 among) [
    | inl a ↦ inl (c, a, is, over)
    | inr e ↦ inr (let P : Carry → Type 0 = λ z. (z.range ≡ range) × Over z from to in subst P (sym e) (is, over))
  ],
  λ h. elim h [ inl (c, a, is, over) ↦ (c, (split c).1 (inl a), is, over) | inr (is, over) ↦ (y, (split y).1 (inr refl), is, over) ],
)

module _ (sanitizers : List Span) (numbers : Numbering) (nodes : List Numbered) (carries : List Carry) where
  abbrev Within : List Numbered → ℕ → ℕ → Type 0
  Within = CarriesWithin sanitizers numbers nodes carries

  -- one node more, with the carries that begin where it does
  pub within_more : (begun : List Carry) (xs ys : List Numbered) (y : Numbered) → ((s : Numbered) → Among ys s ↔ (Among xs s ⊎ (y ≡ s))) → ((c : Carry) → Among begun c ↔ (Among carries c × (c.range.from ≡ (span_of y.node).from)))
      → (from to : ℕ) → Within ys from to ↔ (Within xs from to ⊎ CarriesAt sanitizers numbers nodes begun (span_of y.node) from to)
  within_more begun xs ys y split begins from to = (
    λ (c, among, (s, there, e), over). elim ((split s).0 there) [
      | inl a ↦ inl (c, among, (s, a, e), over)
      | inr q ↦
          let P : Numbered → Type 0 = λ z. c.range ≡ span_of z.node in
          let is = subst P (sym q) (sym e) in
          inr (c, (begins c).1 (among, ap (λ (z : Span). z.from) is), is, over)
    ],
    λ h. elim h [
      | inl (c, among, (s, a, e), over) ↦ (c, among, (s, (split s).1 (inl a), e), over)
      | inr (c, among, is, over) ↦ (c, ((begins c).0 among).0, (y, (split y).1 (inr refl), sym is), over)
    ],
  )

  -- one node more with a range that another one has
  pub within_same : (xs ys : List Numbered) (y : Numbered) → ((s : Numbered) → Among ys s ↔ (Among xs s ⊎ (y ≡ s))) → Stands xs (span_of y.node) → (from to : ℕ) → Within ys from to ↔ Within xs from to
  within_same xs ys y split (s, there, e) from to = (
    λ (c, among, (t, here, is), over). elim ((split t).0 here) [
      | inl a ↦ (c, among, (t, a, is), over)
      | inr q ↦ (c, among, (s, there, e ∙ ap (λ (z : Numbered). span_of z.node) q ∙ is), over)
    ],
    λ (c, among, (t, here, is), over). (c, among, (t, (split t).1 (inl here), is), over),
  )

  pub within_all : (from to : ℕ) → Within nodes from to ↔ ((c : Carry) × Among carries c × CarriesFact sanitizers numbers nodes c from to)
  within_all from to = (
    λ (c, among, stands, over). (c, among, (carries_is sanitizers numbers nodes c from to).1 (stands, over)),
    λ (c, among, fact). (let p = (carries_is sanitizers numbers nodes c from to).0 fact in (c, among, p.0, p.1)),
  )

-- a node more has its range, and the nodes before still have theirs
pub stands_here : (xs ys : List Numbered) (y : Numbered) → ((s : Numbered) → Among ys s ↔ (Among xs s ⊎ (y ≡ s))) → Stands ys (span_of y.node)
stands_here xs ys y split = (y, (split y).1 (inr refl), refl)

pub stands_still : (xs ys : List Numbered) (y : Numbered) (range : Span) → ((s : Numbered) → Among ys s ↔ (Among xs s ⊎ (y ≡ s))) → Stands xs range → Stands ys range
stands_still xs ys y range split (s, there, e) = (s, (split s).1 (inl there), e)
