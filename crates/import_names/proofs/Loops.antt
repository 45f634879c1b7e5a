-- Loops that add what each item has.
use Rattle.std.proofs.Common.{◌≡◌, ℕ, ◌+◌, ◌<◌, ◌≤◌, List, [], ◌∷◌, ◌++◌, length, map, take, get_or, refl, sym, ap, ◌∙◌, arith}
use Rattle.std.specs.List.{flat_map}
use Rattle.std.proofs.lemmas.List.{take_more, take_all, flat_map_more, get_or_default}
use Rattle.point_nodes.proofs.Parts.{flat_more}

module _ {X Z : Type 0} (F : X → List Z) where
  -- one item more
  pub added_more : (xs : List X) (i : ℕ) (x : X) (first old new : List Z) → i < length xs → x ≡ get_or xs i x
      → old ≡ first ++ flat_map F (take i xs) → new ≡ old ++ F x → new ≡ first ++ flat_map F (take (i + 1) xs)
  added_more xs i x first old new lt is old_is new_is =
      new_is ∙ ap (λ ys. ys ++ F x) old_is ∙ flat_map_more F first (take i xs) x
      ∙ ap (λ ys. first ++ flat_map F ys) (sym (take_more xs i x lt ∙ ap (λ y. take i xs ++ y ∷ []) (sym is)))

  -- all items
  pub added_all : (xs : List X) (i : ℕ) (ys : List X) (first now : List Z) → length xs ≤ i → xs ≡ ys → now ≡ first ++ flat_map F (take i xs) → now ≡ first ++ flat_map F ys
  added_all xs i ys first now le is now_is = now_is ∙ ap (λ zs. first ++ flat_map F zs) (take_all i xs le ∙ is)

pub none_if : {X : Type 0} (xs : List X) → length xs ≡ 0 → xs ≡ []
none_if [] e = refl
none_if (x ∷ xs) e = absurd (omega (arith, e))

pub map_as : {X Y : Type 0} (f : X → Y) {xs ys : List X} → xs ≡ ys → map f xs ≡ map f ys
map_as f e = ap (map f) e

-- one item more, which is read with a default
pub defaulted_more : {X Y Z : Type 0} (f : X → Y) (F : Y → List Z) (xs : List X) (i : ℕ) (d : X) (first old new : List Z) → i < length xs
    → old ≡ first ++ flat_map F (map f (take i xs)) → new ≡ old ++ F (f (get_or xs i d)) → new ≡ first ++ flat_map F (map f (take (i + 1) xs))
defaulted_more f F xs i d first old new lt old_is new_is = flat_more f F xs i (get_or xs i d) first old new lt (get_or_default xs i d (get_or xs i d) lt) old_is new_is
