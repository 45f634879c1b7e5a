-- What holds of the items of a list, looked at one by one.
use Rattle.std.proofs.Common.{◌≡◌, ◌⊎◌, ◌<◌, ◌≤◌, inl, inr, ℕ, ◌+◌, List, length, get_or, refl, sym, subst, arith}
use Rattle.std.specs.Prelude.{Option, None, Some, slice_get}
use Rattle.std.proofs.lemmas.Option.{slice_get_read, slice_get_past}

module _ {X : Type 0} (P : Option X → Type 0) (xs : List X) where
  -- so many of the items were looked at
  abbrev pub First : ℕ → Type 0
  First i = (k : ℕ) → k < i → P (slice_get xs k)

  split : (k i : ℕ) → k < i + 1 → (k < i) ⊎ (k ≡ i)
  split k i lt = grind (arith, lt)

  order : (a b : ℕ) → (a < b) ⊎ (b ≤ a)
  order a b = grind arith

  pub first_more : (i : ℕ) (x : X) → i < length xs → x ≡ get_or xs i x → P (Some x) → First i → First (i + 1)
  first_more i x lt is here first k le = at (split k i le)
    where
      at : (k < i) ⊎ (k ≡ i) → P (slice_get xs k)
      at (inl less) = first k less
      at (inr e) =
          let Q : ℕ → Type 0 = λ j. P (slice_get xs j) in
          subst Q (sym e) (subst P (sym (slice_get_read xs (length xs) i x refl lt is)) here)

  pub first_all : (i : ℕ) → length xs ≤ i → P None → First i → (k : ℕ) → P (slice_get xs k)
  first_all i le none first k = at (order k (length xs))
    where
      at : (k < length xs) ⊎ (length xs ≤ k) → P (slice_get xs k)
      at (inl lt) = first k (omega (arith, lt, le))
      at (inr past) = subst P (sym (slice_get_past xs k past)) none
