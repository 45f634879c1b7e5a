-- A search along bounds.
use Rattle.std.proofs.Common.{◌≡◌, ℕ, suc, ◌+◌, ◌<◌, List, [], ◌∷◌, ◌++◌, length, take, drop, get_or, map, refl, sym, ap, ◌∙◌, subst, add-one, drop-cons}
use Rattle.meta_bind.specs.declared.bound.Bound.{Bound}
use Rattle.meta_bind.specs.Bounds.{with_bound}

-- the item at i, and those after it
pub opened : {X : Type 0} (xs : List X) (i : ℕ) (x : X) → i < length xs → x ≡ get_or xs i x → drop i xs ≡ x ∷ drop (i + 1) xs
opened xs i x lt is = drop-cons xs i x lt ∙ ap (λ y. y ∷ drop (suc i) xs) (sym is) ∙ ap (λ j. x ∷ drop j xs) (sym (add-one i))

-- the place of a bound is that among what is left, with what is before it
abbrev pub PlacedFrom : {X : Type 0} → (X → Bound) → List ℕ → List X → ℕ → Type 0
PlacedFrom f name xs i = (b : Bound) → b.name ≡ name → with_bound b (map f xs) ≡ map f (take i xs) ++ with_bound b (map f (drop i xs))

-- what an insert at that place leaves
pub inserted : {X : Type 0} (f : X → Bound) (xs ys new : List X) (i : ℕ) (x : X) (name : List ℕ) → ys ≡ xs → new ≡ take i xs ++ x ∷ drop i xs → (f x).name ≡ name
    → ((b : Bound) → b.name ≡ name → with_bound b (map f ys) ≡ map f (take i ys) ++ b ∷ map f (drop i ys)) → map f new ≡ with_bound (f x) (map f xs)
inserted {X} f xs ys new i x name e is named place =
    let P : List X → Type 0 = λ zs. with_bound (f x) (map f zs) ≡ map f (take i zs) ++ f x ∷ map f (drop i zs) in
    ap (map f) is ∙ over (take i xs) ∙ sym (subst P e (place (f x) named))
  where
    over : (zs : List X) → map f (zs ++ x ∷ drop i xs) ≡ map f zs ++ f x ∷ map f (drop i xs)
    over [] = refl
    over (z ∷ zs) = ap (λ ws. f z ∷ ws) (over zs)
