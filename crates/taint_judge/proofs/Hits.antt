-- The hits in a file are one list, and there are none where a function is too large.
use Rattle.std.proofs.Common.{◌≡◌, inl, inr, ℕ, zero, suc, ◌<◌, List, [], ◌∷◌, refl, sym, ap, ◌∙◌, subst, arith}
use Rattle.std.specs.Prelude.{Some, slice_get}
use Rattle.node_tree.specs.declared.node.Node.{Node}
use Rattle.node_tree.specs.declared.span.Span.{Span}
use Rattle.graph_form.specs.Sets.{Among}
use Rattle.flow_graph.specs.Units.{units_of, InOrder}
use Rattle.taint_flow.specs.declared.hit.TaintHit.{TaintHit}
use Rattle.taint_tables.specs.declared.sets.TaintSets.{TaintSets}
use Rattle.taint_flow.specs.Taint.{IsUpTo, IsLeastSource, AreHits}
use Rattle.taint_flow.specs.Sizes.{start_of, NoneLarge, FirstLarge}

-- ---- items and places

module _ {X : Type 0} where
  among_get : (xs : List X) (x : X) → Among xs x → (k : ℕ) × (slice_get xs k ≡ Some x)
  among_get [] x h = absurd h
  among_get (y ∷ ys) x (inl e) = (0, ap (λ (z : X). Some z) e)
  among_get (y ∷ ys) x (inr h) = let r = among_get ys x h in (suc r.0, r.1)

  get_among : (xs : List X) (k : ℕ) (x : X) → slice_get xs k ≡ Some x → Among xs x
  get_among [] k x e = absurd cc
  get_among (y ∷ ys) zero x e = inl cc
  get_among (y ∷ ys) (suc k) x e = inr (get_among ys k x e)

  module _ (Before : X → X → Type 0) (apart : (x y : X) → Before x y → Before y x → ⊥) where
    first_before : (x : X) (xs : List X) (y : X) → InOrder Before (x ∷ xs) → Among xs y → Before x y
    first_before x xs y up h = let r = among_get xs y h in up 0 (suc r.0) x y (omega arith) refl r.1

    rest_in_order : (x : X) (xs : List X) → InOrder Before (x ∷ xs) → InOrder Before xs
    rest_in_order x xs up i j y z lt = up (suc i) (suc j) y z (omega (arith, lt))

    -- the first items of two lists in order with the same items are one
    first_one : (x : X) (xs : List X) (y : X) (ys : List X) → InOrder Before (x ∷ xs) → InOrder Before (y ∷ ys) → Among (y ∷ ys) x → Among (x ∷ xs) y → x ≡ y
    first_one x xs y ys up up' (inl e) k = sym e
    first_one x xs y ys up up' (inr h) (inl e) = e
    first_one x xs y ys up up' (inr h) (inr k) = absurd (apart x y (first_before x xs y up k) (first_before y ys x up' h))

    rest_among : (x : X) (xs : List X) (y : X) (ys : List X) → InOrder Before (x ∷ xs) → x ≡ y → ((z : X) → Among (x ∷ xs) z → Among (y ∷ ys) z) → (z : X) → Among xs z → Among ys z
    rest_among x xs y ys up same all z h = at (all z (inr h))
      where
        at : Among (y ∷ ys) z → Among ys z
        at (inl e) =
            let P : X → Type 0 = λ w. Before x w in
            let less = subst P (sym e ∙ sym same) (first_before x xs z up h) in
            absurd (apart x x less less)
        at (inr k) = k

    -- two lists in order with the same items are one
    lists_one : (xs ys : List X) → InOrder Before xs → InOrder Before ys → ((z : X) → Among xs z → Among ys z) → ((z : X) → Among ys z → Among xs z) → xs ≡ ys
    lists_one [] [] up up' to from = refl
    lists_one [] (y ∷ ys) up up' to from = absurd (from y (inl refl))
    lists_one (x ∷ xs) [] up up' to from = absurd (to x (inl refl))
    lists_one (x ∷ xs) (y ∷ ys) up up' to from =
        let same = first_one x xs y ys up up' (to x (inl refl)) (from y (inl refl)) in
        let rest = lists_one xs ys (rest_in_order x xs up) (rest_in_order y ys up') (rest_among x xs y ys up same to) (rest_among y ys x xs up' (sym same) from) in
        ap (λ (z : X). z ∷ xs) same ∙ ap (λ (zs : List X). y ∷ zs) rest

-- ---- hits

up_to_one : (a b : Span) → IsUpTo a b → IsUpTo b a → a ≡ b
up_to_one a b (inl h) (inl k) = absurd (omega (arith, h, k))
up_to_one a b (inl h) (inr k) = let e = k.0 in absurd (omega (arith, h, e))
up_to_one a b (inr h) (inl k) = let e = h.0 in absurd (omega (arith, e, k))
up_to_one a b (inr h) (inr k) =
    let le = h.1 in
    let ge = k.1 in
    let to : a.to ≡ b.to = omega (arith, le, ge) in
    let f : ℕ → Span = λ x. record { from = x; to = a.to } in
    let g : ℕ → Span = λ x. record { from = b.from; to = x } in
    ap f h.0 ∙ ap g to

module _ (root : Node) (sets : TaintSets) where
  -- hits of one sink are one
  hit_one : (hits others : List TaintHit) (a b : TaintHit) → AreHits root sets hits → AreHits root sets others → Among hits a → Among others b → a.sink ≡ b.sink → a ≡ b
  hit_one hits others a b h k in_hits in_others same =
      let x = h.each a in_hits in
      let y = k.each b in_others in
      let Ranges : ℕ → Type 0 = λ n. slice_get sets.sinks n ≡ Some y.0 in
      let there : slice_get sets.sinks a.sink ≡ Some y.0 = subst Ranges (sym same) y.1 in
      let range : x.0 ≡ y.0 = (let e = x.1 in cc) in
      let Least : Span → Type 0 = λ r. IsLeastSource root sets r a.source in
      let least = subst Least range x.2 in
      let source = up_to_one a.source b.source (least.least b.source y.2.hits) (y.2.least a.source least.hits) in
      let f : ℕ → TaintHit = λ n. record { sink = n; source = a.source } in
      let g : Span → TaintHit = λ s. record { sink = b.sink; source = s } in
      ap f same ∙ ap g source

  hits_in : (hits others : List TaintHit) → AreHits root sets hits → AreHits root sets others → (a : TaintHit) → Among hits a → Among others a
  hits_in hits others h k a there =
      let x = h.each a there in
      let y = k.all a.sink x.0 a.source x.1 x.2.hits in
      let P : TaintHit → Type 0 = Among others in
      subst P (sym (hit_one hits others a y.0 h k there y.1 (sym y.2))) y.1

  pub hits_one : (hits others : List TaintHit) → AreHits root sets hits → AreHits root sets others → hits ≡ others
  hits_one hits others h k =
      let Before : TaintHit → TaintHit → Type 0 = λ a b. a.sink < b.sink in
      lists_one Before (λ a b less more. absurd (omega (arith, less, more))) hits others h.order k.order (hits_in hits others h k) (hits_in others hits k h)

  -- ---- units that are too large

  pub none_or_first : (at : ℕ) → NoneLarge root sets → FirstLarge root sets at → ⊥
  none_or_first at none first =
      let small = none first.unit (get_among (units_of root) first.place first.unit first.stands) in
      let large = first.large in
      absurd (omega (arith, small, large))

  place_up_to : (at other : ℕ) → (h : FirstLarge root sets at) (k : FirstLarge root sets other) → k.place < h.place → ⊥
  place_up_to at other h k lt =
      let small = h.first k.place k.unit lt k.stands in
      let large = k.large in
      absurd (omega (arith, small, large))

  place_one : (at other : ℕ) → (h : FirstLarge root sets at) (k : FirstLarge root sets other) → h.place ≡ k.place
  place_one at other h k =
      let not_less = place_up_to at other h k in
      let not_more = place_up_to other at k h in
      omega (arith, not_less, not_more)

  pub first_one_place : (at other : ℕ) → FirstLarge root sets at → FirstLarge root sets other → at ≡ other
  first_one_place at other h k =
      let places = place_one at other h k in
      let P : ℕ → Type 0 = λ i. slice_get (units_of root) i ≡ Some h.unit in
      let there = subst P places h.stands in
      let unit : h.unit ≡ k.unit = (let e = k.stands in cc) in
      h.start ∙ ap (start_of root) unit ∙ sym k.start
