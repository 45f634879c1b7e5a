-- Lists in order.
use Rattle.std.proofs.Common.{◌≡◌, inl, inr, ℕ, ◌≤◌, List, [], ◌∷◌, ◌++◌, length, refl, sym, ap, ◌∙◌, subst, arith}
use Rattle.std.specs.declared.cmp.Ordering.{Ordering}
use Rattle.std.specs.declared.cmp.Ordering.TheVariants.{Less, Equal, Greater}
use Rattle.std.specs.Ordering.{ordering_then}
use Rattle.std.specs.Cmp.{IsTotalOrder}
use Rattle.std.proofs.lemmas.Cmp.{tied_itself}
use Rattle.node_match.specs.Sets.{Among}
use Rattle.tree_match.specs.Ascending.{IsAscending}
use Rattle.file_results.specs.Sets.{IsExactly, HasMore}

-- each item of the one is an item of the other
abbrev Within : {X : Type 0} → List X → List X → Type 0
Within {X} xs ys = (x : X) → Among xs x → Among ys x

module _ {X : Type 0} (R : X → X → Ordering) (o : IsTotalOrder R) where
  not_itself : (x y : X) → x ≡ y → R x y ≡ Less → ⊥
  not_itself x y e less = let P : X → Type 0 = λ z. R x z ≡ Less in let f = sym (tied_itself o x) ∙ subst P (sym e) less in absurd cc

  not_both : (x y : X) → R x y ≡ Less → R y x ≡ Less → ⊥
  not_both x y e f = not_itself x x refl (o.trans x y x e f)

  pub tail_ascends : (x : X) (xs : List X) → IsAscending R (x ∷ xs) → IsAscending R xs
  tail_ascends x [] up = tt
  tail_ascends x (y ∷ ys) up = up.1

  pub first_below : (x : X) (xs : List X) (y : X) → IsAscending R (x ∷ xs) → Among xs y → R x y ≡ Less
  first_below x [] y up h = absurd h
  first_below x (z ∷ zs) y up (inl e) = let P : X → Type 0 = λ w. R x w ≡ Less in subst P e up.0
  first_below x (z ∷ zs) y up (inr h) = o.trans x z y up.0 (first_below z zs y up.1 h)

  rest_among : (x : X) (xs : List X) (y : X) (ys : List X) → IsAscending R (x ∷ xs) → y ≡ x → Within (x ∷ xs) (y ∷ ys) → Within xs ys
  rest_among x xs y ys up e all z h = elim (all z (inr h)) [ inl f ↦ absurd (not_itself x z (sym e ∙ f) (first_below x xs z up h)) | inr a ↦ a ]

  -- two lists in order with the same items are one
  one_list : (xs ys : List X) → IsAscending R xs → IsAscending R ys → Within xs ys → Within ys xs → xs ≡ ys
  one_list [] [] up up' all all' = refl
  one_list [] (y ∷ ys) up up' all all' = absurd (all' y (inl refl))
  one_list (x ∷ xs) [] up up' all all' = absurd (all x (inl refl))
  one_list (x ∷ xs) (y ∷ ys) up up' all all' =
      let heads : x ≡ y = elim (all x (inl refl)) [
        | inl e ↦ sym e
        | inr a ↦ elim (all' y (inl refl)) [ inl e ↦ e | inr b ↦ absurd (not_both x y (first_below x xs y up b) (first_below y ys x up' a)) ]
      ] in
      ap (λ (z : X). z ∷ xs) heads
      ∙ ap (λ (zs : List X). y ∷ zs) (one_list xs ys (tail_ascends x xs up) (tail_ascends y ys up') (rest_among x xs y ys up (sym heads) all) (rest_among y ys x xs up' heads all'))

  pub exactly_once : (Set : X → Type 0) (xs ys : List X) → IsExactly R Set xs → IsExactly R Set ys → xs ≡ ys
  exactly_once Set xs ys a b = one_list xs ys a.ordered b.ordered (λ x h. (b.exact x).1 ((a.exact x).0 h)) (λ x h. (a.exact x).1 ((b.exact x).0 h))

  -- what is below all items is none of them
  later_among : (x : X) (xs : List X) (y : X) (ys : List X) → IsAscending R (x ∷ xs) → R y x ≡ Less → Within (x ∷ xs) (y ∷ ys) → Within (x ∷ xs) ys
  later_among x xs y ys up less all z h = elim (all z h) [ inl e ↦ absurd (not_itself y z e (after z h)) | inr a ↦ a ]
    where
      after : (w : X) → Among (x ∷ xs) w → R y w ≡ Less
      after w (inl e) = let P : X → Type 0 = λ v. R y v ≡ Less in subst P e less
      after w (inr k) = o.trans y x w less (first_below x xs w up k)

  -- a list in order with items of another has no more
  no_longer : (xs ys : List X) → IsAscending R xs → IsAscending R ys → Within xs ys → length xs ≤ length ys
  no_longer [] ys up up' all = omega arith
  no_longer (x ∷ xs) [] up up' all = absurd (all x (inl refl))
  no_longer (x ∷ xs) (y ∷ ys) up up' all =
      let longer : Among ys x → length (x ∷ xs) ≤ length ys = λ a. no_longer (x ∷ xs) ys up (tail_ascends y ys up') (later_among x xs y ys up (first_below y ys x up' a) all) in
      let shorter : y ≡ x → length xs ≤ length ys = λ e. no_longer xs ys (tail_ascends x xs up) (tail_ascends y ys up') (rest_among x xs y ys up e all) in
      elim (all x (inl refl)) [ inl e ↦ (let f = shorter e in omega arith) | inr a ↦ (let f = longer a in omega arith) ]

  -- a set of so few items doesn't have more
  pub few_or_more : (Set : X → Type 0) (many : ℕ) (items : List X) → IsExactly R Set items → length items ≤ many → HasMore R Set many → ⊥
  few_or_more Set many items whole few more =
      let part = no_longer more.some items more.ordered whole.ordered (λ x h. (whole.exact x).1 (more.members x h)) in
      let lt = more.more in
      absurd (omega (arith, part, lt, few))

  -- what stands before an item is below it
  pub before_below : (xs : List X) (y : X) (ys : List X) (x : X) → IsAscending R (xs ++ y ∷ ys) → Among xs x → R x y ≡ Less
  before_below [] y ys x up h = absurd h
  before_below (z ∷ zs) y ys x up (inl e) = let P : X → Type 0 = λ w. R w y ≡ Less in subst P e (first_below z (zs ++ y ∷ ys) y up (there zs))
    where
      there : (ws : List X) → Among (ws ++ y ∷ ys) y
      there [] = inl refl
      there (w ∷ ws) = inr (there ws)
  before_below (z ∷ zs) y ys x up (inr h) = before_below zs y ys x (tail_ascends z (zs ++ y ∷ ys) up) h

-- two lists in order, all of the one below all of the other
pub ascends_front : {X : Type 0} (R : X → X → Ordering) (xs ys : List X) → IsAscending R (xs ++ ys) → IsAscending R xs
ascends_front R [] ys up = tt
ascends_front R (x ∷ []) ys up = tt
ascends_front R (x ∷ z ∷ zs) ys up = (up.0, ascends_front R (z ∷ zs) ys up.1)

pub ascends_on : {X : Type 0} (R : X → X → Ordering) (xs ys : List X) → IsAscending R xs → IsAscending R ys → ((x y : X) → Among xs x → Among ys y → R x y ≡ Less) → IsAscending R (xs ++ ys)
ascends_on R [] ys up up' below = up'
ascends_on R (x ∷ []) [] up up' below = tt
ascends_on R (x ∷ []) (y ∷ ys) up up' below = (below x y (inl refl) (inl refl), up')
ascends_on R (x ∷ z ∷ zs) ys up up' below = (up.0, ascends_on R (z ∷ zs) ys up.1 up' (λ v w h k. below v w (inr h) k))

-- the first comparison is tied, and so the last one isn't needed
pub last_unneeded : (t a b c d : Ordering) → t ≡ Equal → ordering_then a (ordering_then b (ordering_then c d)) ≡ Less → (b ≡ Equal → d ≡ Equal) → ordering_then t (ordering_then a (ordering_then b c)) ≡ Less
last_unneeded t a b c d e h tied = ap (λ (x : Ordering). ordering_then x (ordering_then a (ordering_then b c))) e ∙ at a b c h tied
  where
    at : (a b c : Ordering) → ordering_then a (ordering_then b (ordering_then c d)) ≡ Less → (b ≡ Equal → d ≡ Equal) → ordering_then a (ordering_then b c) ≡ Less
    at Less b c h tied = refl
    at Greater b c h tied = absurd cc
    at Equal Less c h tied = refl
    at Equal Greater c h tied = absurd cc
    at Equal Equal Less h tied = refl
    at Equal Equal Greater h tied = absurd cc
    at Equal Equal Equal h tied = absurd (let f = sym h ∙ tied refl in cc)

pub first_decides : (a b : Ordering) → a ≡ Less → ordering_then a b ≡ Less
first_decides a b e = ap (λ (x : Ordering). ordering_then x b) e
