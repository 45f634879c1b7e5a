-- Items that are put in order, each once.
use Rattle.std.proofs.Common.{◌≡◌, ◌↔◌, ◌⊎◌, inl, inr, ℕ, zero, suc, ◌+◌, ◌-◌, ◌<◌, ◌≤◌, List, [], ◌∷◌, ◌++◌, length, take, drop, get_or, refl, sym, ap, ◌∙◌, subst, Bool, true, false, arith}
use Rattle.std.proofs.lemmas.List.{drop_all}
use Rattle.std.specs.List.{Contains}
use Rattle.std.specs.List.Sorted.{IsPermutation, IsSortedBy}
use Rattle.std.specs.Cmp.{IsTotalOrder, IsStrictWeakOrder}
use Rattle.std.specs.declared.cmp.Ordering.{Ordering}
use Rattle.std.specs.declared.cmp.Ordering.TheVariants.{Less, Equal, Greater}
use Rattle.std.specs.Ordering.{is_lt, ordering_reverse}
use Rattle.std.proofs.lemmas.List.Sorted.{sorted_far, ranks_by, IsStrictWeakOrder-flip, Contains-permutation, IsPermutation-sym}
use Rattle.std.proofs.lemmas.Cmp.{tied_itself}
use Rattle.meta_bind.proofs.Lookups.{opened}
use Rattle.node_match.specs.Sets.{Among}
use Rattle.tree_match.specs.Ascending.{IsAscending}
use Rattle.node_match.proofs.Sets.{among_at}
use Rattle.sorted_sets.specs.Sizes.{Each}
use Rattle.sorted_sets.specs.Ends.{EndsWith, IsEndedBy}
use Rattle.sorted_sets.proofs.Lasts.{among_front, among_end, among_snoc}

-- ---- the last item

abbrev last_of : {X : Type 0} → X → List X → X
last_of d [] = d
last_of d (x ∷ xs) = last_of x xs

last_is : {X : Type 0} (d : X) (ys : List X) (x : X) → last_of d (ys ++ x ∷ []) ≡ x
last_is d [] x = refl
last_is d (y ∷ ys) x = last_is y ys x

pub one_last : {X : Type 0} (xs : List X) (x y : X) → EndsWith xs x → EndsWith xs y → x ≡ y
one_last xs x y h k = sym (last_is x h.0 x) ∙ ap (last_of x) (sym h.1 ∙ k.1) ∙ last_is x k.0 y

put_together : {X : Type 0} (xs : List X) (n : ℕ) → take n xs ++ drop n xs ≡ xs
put_together xs zero = refl
put_together [] (suc n) = refl
put_together (x ∷ xs) (suc n) = ap (λ ys. x ∷ ys) (put_together xs n)

pub ends_at : {X : Type 0} (xs : List X) (x : X) → 0 < length xs → x ≡ get_or xs (length xs - 1) x → EndsWith xs x
ends_at {X} xs x lt is =
    let n = length xs - 1 in
    let left = opened xs n x (omega arith) is in
    (take n xs, sym (put_together xs n) ∙ ap (λ (ys : List X). take n xs ++ ys) (left ∙ ap (λ (ys : List X). x ∷ ys) (drop_all (n + 1) xs (omega arith))))

pub no_end : {X : Type 0} (xs : List X) (x : X) → length xs ≡ 0 → EndsWith xs x → ⊥
no_end xs x e (ys, is) = none ys (sym (ap length is) ∙ e)
  where
    none : (zs : List _) → length (zs ++ x ∷ []) ≡ 0 → ⊥
    none [] f = omega (arith, f)
    none (z ∷ zs) f = omega (arith, f)

among_index : {X : Type 0} (d : X) (xs : List X) (y : X) → Among xs y → (k : ℕ) × (k < length xs) × (get_or xs k d ≡ y)
among_index d [] y h = elim h [ ]
among_index d (x ∷ xs) y (inl e) = (0, omega arith, e)
among_index d (x ∷ xs) y (inr h) = let r = among_index d xs y h in (suc r.0, omega (arith, r.1), r.2)

-- the same items in another order
pub same_items : {X : Type 0} (xs ys : List X) → IsPermutation xs ys → (x : X) → Among ys x ↔ Among xs x
same_items {X} xs ys p x = (λ h. back xs (Contains-permutation ys xs x (IsPermutation-sym xs ys p) (there ys h)), λ h. back ys (Contains-permutation xs ys x p (there xs h)))
  where
    there : (zs : List X) → Among zs x → Contains zs x
    there zs h = among_index x zs x h

    back : (zs : List X) → Contains zs x → Among zs x
    back zs h = among_at zs h.0 x h.1 (sym h.2)

module _ {X : Type 0} (R : X → X → Ordering) (o : IsTotalOrder R) (apart : (x y : X) → R x y ≡ Equal → x ≡ y) where
  pub tied : (x y : X) → x ≡ y → R x y ≡ Equal
  tied x y e = let P : X → Type 0 = λ w. R x w ≡ Equal in subst P e (tied_itself o x)

  abbrev pub later_first : X → X → Bool
  later_first x y = is_lt (R y x)

  pub weak : IsStrictWeakOrder later_first
  weak = IsStrictWeakOrder-flip (λ x y. is_lt (R x y)) (ranks_by o (λ (x : X). x))

  abbrev NotBelow : X → X → Type 0
  NotBelow x y = is_lt (R x y) ≡ false

  -- no item is below one that follows
  abbrev pub Falls : List X → Type 0
  Falls [] = Unit {0}
  Falls (x ∷ xs) = Each (NotBelow x) xs × Falls xs

  falls_by : (xs : List X) → ((i j : ℕ) (d : X) → i ≤ j → j < length xs → NotBelow (get_or xs i d) (get_or xs j d)) → Falls xs
  falls_by [] h = tt
  falls_by (x ∷ xs) h = (
    λ y k. let i = among_index x xs y k in let P : X → Type 0 = NotBelow x in subst P i.2 (h 0 (suc i.0) x (omega arith) (omega (arith, i.1))),
    falls_by xs (λ i j d le lt. h (suc i) (suc j) d (omega arith) (omega arith)),
  )

  pub falls_from : (xs : List X) → IsSortedBy later_first xs → Falls xs
  falls_from xs up = falls_by xs (λ i j d le lt. sorted_far later_first weak xs up i j d le lt)

  falls_front : (xs : List X) (x : X) → Falls (xs ++ x ∷ []) → Falls xs × Each (λ y. NotBelow y x) xs
  falls_front [] x h = (tt, λ y k. elim k [ ])
  falls_front (z ∷ zs) x h =
      let r = falls_front zs x h.1 in
      ((λ y k. h.0 y (among_front zs x y k), r.0), each r.1)
    where
      each : Each (λ y. NotBelow y x) zs → Each (λ y. NotBelow y x) (z ∷ zs)
      each rest y (inl e) = let P : X → Type 0 = λ w. NotBelow w x in subst P e (h.0 x (among_end zs x))
      each rest y (inr k) = rest y k

  ascends_snoc : (xs : List X) (x : X) → IsAscending R xs → Each (NotBelow x) xs → (EndsWith xs x → ⊥) → IsAscending R (xs ++ x ∷ [])
  ascends_snoc [] x up nb other = tt
  ascends_snoc (y ∷ []) x up nb other = (at (R y x) refl (nb y (inl refl)), tt)
    where
      at : (a : Ordering) → R y x ≡ a → is_lt (R x y) ≡ false → a ≡ Less
      at Less e f = refl
      at Equal e f = absurd (other ([], ap (λ (w : X). w ∷ []) (apart y x e)))
      at Greater e f = absurd (let g : is_lt (R x y) ≡ true = ap is_lt (o.antisymm x y ∙ ap ordering_reverse e) in let h = sym g ∙ f in cc)
  ascends_snoc (y ∷ z ∷ zs) x up nb other =
      (up.0, ascends_snoc (z ∷ zs) x up.1 (λ w k. nb w (inr k)) (λ h. other (y ∷ h.0, ap (λ (ws : List X). y ∷ ws) h.1)))

  -- what is settled and what is left
  pub record Settling (all left out : List X) : Type 0 where
    pub falls : Falls left
    pub over : (x y : X) → Among left x → Among out y → NotBelow x y
    pub up : IsAscending R out
    pub whole : (x : X) → (Among out x ⊎ Among left x) ↔ Among all x

  pub settle_start : (all left out : List X) → IsPermutation all left → IsSortedBy later_first left → out ≡ [] → Settling all left out
  settle_start all left out p up e = let P : List X → Type 0 = λ ys. Settling all left ys in subst P (sym e) (record {
    falls = falls_from left up;
    over = λ x y h k. elim k [ ];
    up = tt;
    whole = λ x. (λ h. elim h [ inl k ↦ absurd k | inr k ↦ (same_items all left p x).0 k ], λ h. inr ((same_items all left p x).1 h));
  })

  pub settle_step : (all left left' out out' : List X) (x : X) → left ≡ left' ++ x ∷ [] → Settling all left out → IsEndedBy out out' x → Settling all left' out'
  settle_step all left left' out out' x e s h = at h
    where
      front : Falls left' × Each (λ y. NotBelow y x) left'
      front = let P : List X → Type 0 = Falls in falls_front left' x (subst P e s.falls)

      in_left : (y : X) → Among left' y → Among left y
      in_left y k = let P : List X → Type 0 = λ ys. Among ys y in subst P (sym e) (among_front left' x y k)

      x_in_left : Among left x
      x_in_left = let P : List X → Type 0 = λ ys. Among ys x in subst P (sym e) (among_end left' x)

      from_left : (y : X) → Among left y → Among left' y ⊎ (x ≡ y)
      from_left y k = let P : List X → Type 0 = λ ys. Among ys y in among_snoc left' x y (subst P e k)

      stays : Among out x → Settling all left' out
      stays there = record {
        falls = front.0;
        over = λ y z k m. s.over y z (in_left y k) m;
        up = s.up;
        whole = λ y. (
          λ g. elim g [ inl k ↦ (s.whole y).0 (inl k) | inr k ↦ (s.whole y).0 (inr (in_left y k)) ],
          λ g. elim ((s.whole y).1 g) [ inl k ↦ inl k | inr k ↦ elim (from_left y k) [ inl m ↦ inr m | inr f ↦ inl (let P : X → Type 0 = Among out in subst P f there) ] ],
        );
      }

      goes : (EndsWith out x → ⊥) → Settling all left' (out ++ x ∷ [])
      goes other = record {
        falls = front.0;
        over = λ y z k m. elim (among_snoc out x z m) [ inl n ↦ s.over y z (in_left y k) n | inr f ↦ let P : X → Type 0 = NotBelow y in subst P f (front.1 y k) ];
        up = ascends_snoc out x s.up (λ y k. s.over x y x_in_left k) other;
        whole = λ y. (
          λ g. elim g [
            | inl k ↦ elim (among_snoc out x y k) [ inl m ↦ (s.whole y).0 (inl m) | inr f ↦ (s.whole y).0 (inr (let P : X → Type 0 = Among left in subst P f x_in_left)) ]
            | inr k ↦ (s.whole y).0 (inr (in_left y k))
          ],
          λ g. elim ((s.whole y).1 g) [
            | inl k ↦ inl (among_front out x y k)
            | inr k ↦ elim (from_left y k) [ inl m ↦ inr m | inr f ↦ inl (let P : X → Type 0 = Among (out ++ x ∷ []) in subst P f (among_end out x)) ]
          ],
        );
      }

      at : IsEndedBy out out' x → Settling all left' out'
      at (inl (ends, same)) =
          let P : List X → Type 0 = λ ys. Settling all left' ys in
          let Q : List X → Type 0 = λ ys. Among ys x in
          subst P (sym same) (stays (subst Q (sym ends.1) (among_end ends.0 x)))
      at (inr (other, new)) = let P : List X → Type 0 = λ ys. Settling all left' ys in subst P (sym new) (goes other)
