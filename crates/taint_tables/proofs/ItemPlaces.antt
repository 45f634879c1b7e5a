-- Items by their places.
use Rattle.std.proofs.Common.{◌≡◌, ◌⊎◌, ◌↔◌, inl, inr, ℕ, zero, suc, ◌+◌, ◌<◌, List, [], ◌∷◌, ◌++◌, length, take, get_or, refl, sym, ap, subst, ◌∙◌, arith}
use Rattle.std.specs.Prelude.{Some, slice_get}
use Rattle.std.proofs.lemmas.List.{take_more, length-take-le}
use Rattle.flow_reach.proofs.Sorted.{got_push}

module _ {X : Type 0} where
  got_keep : (xs : List X) (y x : X) (k : ℕ) → slice_get xs k ≡ Some x → slice_get (xs ++ y ∷ []) k ≡ Some x
  got_keep [] y x k e = absurd cc
  got_keep (z ∷ zs) y x zero e = e
  got_keep (z ∷ zs) y x (suc k) e = got_keep zs y x k e

  got_last : (xs : List X) (y : X) → slice_get (xs ++ y ∷ []) (length xs) ≡ Some y
  got_last [] y = refl
  got_last (z ∷ zs) y = got_last zs y

  -- one item more
  pub got_more : (xs : List X) (i : ℕ) (d : X) → i < length xs → (k : ℕ) (x : X) → (slice_get (take (i + 1) xs) k ≡ Some x) ↔ ((slice_get (take i xs) k ≡ Some x) ⊎ ((k ≡ i) × (get_or xs i d ≡ x)))
  got_more xs i d lt k x =
      let size : length (take i xs) ≡ i = length-take-le i xs (omega (arith, lt)) in
      let P : List X → Type 0 = λ ys. (slice_get ys k ≡ Some x) ↔ ((slice_get (take i xs) k ≡ Some x) ⊎ ((k ≡ i) × (get_or xs i d ≡ x))) in
      subst P (sym (take_more xs i d lt)) (
        λ h. elim (got_push (take i xs) (get_or xs i d) k x h) [ inl a ↦ inl a | inr (e, q) ↦ inr (e ∙ size, q) ],
        λ h. elim h [
          | inl a ↦ got_keep (take i xs) (get_or xs i d) x k a
          | inr (e, q) ↦ ap (slice_get (take i xs ++ get_or xs i d ∷ [])) (e ∙ sym size) ∙ got_last (take i xs) (get_or xs i d) ∙ ap (λ z. Some z) q
        ],
      )
