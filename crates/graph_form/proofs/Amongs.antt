-- Items of lists that grow, are read, or stand in another order.
use Rattle.std.proofs.Common.{◌≡◌, ◌⊎◌, ◌↔◌, inl, inr, ℕ, zero, suc, ◌+◌, ◌<◌, List, [], ◌∷◌, ◌++◌, length, take, get_or, sym, subst, refl, arith}
use Rattle.std.specs.List.{Contains}
use Rattle.std.specs.List.Sorted.{IsPermutation}
use Rattle.std.proofs.lemmas.List.{take_more}
use Rattle.std.proofs.lemmas.List.Sorted.{Contains-permutation, IsPermutation-sym}
use Rattle.graph_form.specs.Sets.{Among}

module _ {X : Type 0} where
  pub among_app : (xs ys : List X) (x : X) → Among (xs ++ ys) x ↔ (Among xs x ⊎ Among ys x)
  among_app [] ys x = (λ h. inr h, λ h. elim h [ inl a ↦ absurd a | inr b ↦ b ])
  among_app (z ∷ zs) ys x =
      let r = among_app zs ys x in (
        λ h. elim h [ inl e ↦ inl (inl e) | inr t ↦ elim (r.0 t) [ inl a ↦ inl (inr a) | inr b ↦ inr b ] ],
        λ h. elim h [ inl a ↦ elim a [ inl e ↦ inl e | inr t ↦ inr (r.1 (inl t)) ] | inr b ↦ inr (r.1 (inr b)) ],
      )

  -- one item is pushed
  pub among_push : (xs : List X) (y x : X) → Among (xs ++ y ∷ []) x ↔ (Among xs x ⊎ (y ≡ x))
  among_push xs y x =
      let r = among_app xs (y ∷ []) x in (
        λ h. elim (r.0 h) [ inl a ↦ inl a | inr b ↦ elim b [ inl e ↦ inr e | inr n ↦ absurd n ] ],
        λ h. elim h [ inl a ↦ r.1 (inl a) | inr e ↦ r.1 (inr (inl e)) ],
      )

  -- the items as far as a loop has come
  pub among_more : (xs : List X) (i : ℕ) (d : X) → i < length xs → (x : X) → Among (take (i + 1) xs) x ↔ (Among (take i xs) x ⊎ (get_or xs i d ≡ x))
  among_more xs i d lt x =
      let P : List X → Type 0 = λ ys. Among ys x ↔ (Among (take i xs) x ⊎ (get_or xs i d ≡ x)) in
      subst P (sym (take_more xs i d lt)) (among_push (take i xs) (get_or xs i d) x)

  -- an item that is read
  pub among_at : (xs : List X) (i : ℕ) (d : X) → i < length xs → Among xs (get_or xs i d)
  among_at [] i d lt = absurd (omega arith)
  among_at (x ∷ xs) zero d lt = inl refl
  among_at (x ∷ xs) (suc i) d lt = inr (among_at xs i d (omega arith))

  -- the place of an item
  pub among_place : (d : X) (xs : List X) (y : X) → Among xs y → (k : ℕ) × (k < length xs) × (get_or xs k d ≡ y)
  among_place d [] y h = elim h [ ]
  among_place d (x ∷ xs) y (inl e) = (0, omega arith, e)
  among_place d (x ∷ xs) y (inr h) = let r = among_place d xs y h in (suc r.0, omega (arith, r.1), r.2)

  -- the same items in another order
  pub same_items : (xs ys : List X) → IsPermutation xs ys → (x : X) → Among ys x ↔ Among xs x
  same_items xs ys p x = (λ h. back xs (Contains-permutation ys xs x (IsPermutation-sym xs ys p) (there ys h)), λ h. back ys (Contains-permutation xs ys x p (there xs h)))
    where
      there : (zs : List X) → Among zs x → Contains zs x
      there zs h = among_place x zs x h

      back : (zs : List X) → Contains zs x → Among zs x
      back zs h = let P : X → Type 0 = λ z. Among zs z in subst P h.2 (among_at zs h.0 x h.1)
