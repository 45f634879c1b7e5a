-- Some and each item of a list with one more in front.
use Rattle.std.proofs.Common.{◌≡◌, ◌↔◌, zero, suc, false, true, List, [], ◌∷◌, refl, sym, subst, arith, ◌⊎◌, inl, inr}
use Rattle.std.specs.Prelude.{All, Any, IsTrue}
use Rattle.std.proofs.lemmas.List.Elements.{All-cons, All-head, All-tail, All-nil}

module _ {X : Type 0} (P : X → Type 0) where
  any_head : (x : X) (xs : List X) → P x → Any P (x ∷ xs)
  any_head x xs p = (zero, x, omega arith, refl, p)

  any_tail : (x : X) (xs : List X) → Any P xs → Any P (x ∷ xs)
  any_tail x xs (k, y, l, e, p) = (suc k, y, omega (arith, l), e, p)

  any_cases : (x : X) (xs : List X) → Any P (x ∷ xs) → P x ⊎ Any P xs
  any_cases x xs (zero, y, l, e, p) = inl (subst P (sym e) p)
  any_cases x xs (suc k, y, l, e, p) = inr (k, y, omega (arith, l), e, p)

  -- a loop over what is left of a list, from item to item
  pub some_found : (all : List X) (left : List X) (x : X) (xs : List X) → (Any P all ↔ Any P left) → left ≡ x ∷ xs → P x → IsTrue true ↔ Any P all
  some_found all left x xs same e p = let A : List X → Type 0 = λ z. Any P z in (λ t. same.1 (subst A (sym e) (any_head x xs p)), λ f. refl)

  pub some_further : (all : List X) (left : List X) (x : X) (xs : List X) → (Any P all ↔ Any P left) → left ≡ x ∷ xs → (P x → ⊥) → Any P all ↔ Any P xs
  some_further all left x xs same e misses =
      let A : List X → Type 0 = λ z. Any P z in
      (λ f. elim (any_cases x xs (subst A e (same.0 f))) [ inl p ↦ absurd (misses p) | inr later ↦ later ], λ f. same.1 (subst A (sym e) (any_tail x xs f)))

  pub some_nowhere : (all : List X) (left : List X) → (Any P all ↔ Any P left) → left ≡ [] → IsTrue false ↔ Any P all
  some_nowhere all left same e =
      let A : List X → Type 0 = λ z. Any P z in
      (λ t. absurd cc, λ f. let a = subst A e (same.0 f) in absurd (omega (arith, a.2)))

  pub all_missed : (all : List X) (left : List X) (x : X) (xs : List X) → (All P all ↔ All P left) → left ≡ x ∷ xs → (P x → ⊥) → IsTrue false ↔ All P all
  all_missed all left x xs same e misses =
      let A : List X → Type 0 = λ z. All P z in
      (λ t. absurd cc, λ f. absurd (misses (All-head P x xs (subst A e (same.0 f)))))

  pub all_further : (all : List X) (left : List X) (x : X) (xs : List X) → (All P all ↔ All P left) → left ≡ x ∷ xs → P x → All P all ↔ All P xs
  all_further all left x xs same e p =
      let A : List X → Type 0 = λ z. All P z in
      (λ f. All-tail P x xs (subst A e (same.0 f)), λ f. same.1 (subst A (sym e) (All-cons P x xs p f)))

  pub all_passed : (all : List X) (left : List X) → (All P all ↔ All P left) → left ≡ [] → IsTrue true ↔ All P all
  all_passed all left same e = let A : List X → Type 0 = λ z. All P z in (λ t. same.1 (subst A (sym e) (All-nil P)), λ f. refl)
