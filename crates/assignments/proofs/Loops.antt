-- Loops that gather what each item has.
use Rattle.std.proofs.Common.{◌≡◌, ℕ, ◌+◌, ◌<◌, ◌≤◌, List, [], ◌∷◌, ◌++◌, length, take, map, get_or, append_assoc, sym, ap, ◌∙◌}
use Rattle.std.specs.List.{flat_map}
use Rattle.std.proofs.lemmas.List.{take_more, take_all, map-append}
use Rattle.point_nodes.proofs.Parts.{flat_more}

module _ {X Y : Type 0} (f : X → Y) where
  -- one item more of a loop that adds the items
  pub pushed_more : (xs : List X) (i : ℕ) (x : X) (first : List Y) (old new : List X) → i < length xs → x ≡ get_or xs i x
      → map f old ≡ first ++ map f (take i xs) → new ≡ old ++ x ∷ [] → map f new ≡ first ++ map f (take (i + 1) xs)
  pushed_more xs i x first old new lt is old_is new_is =
      let one : map f (take (i + 1) xs) ≡ map f (take i xs) ++ f x ∷ [] =
      ap (map f) (take_more xs i x lt ∙ ap (λ y. take i xs ++ y ∷ []) (sym is)) ∙ map-append f (take i xs) (x ∷ []) in
      ap (map f) new_is ∙ map-append f old (x ∷ []) ∙ ap (λ ys. ys ++ f x ∷ []) old_is ∙ append_assoc first (map f (take i xs)) (f x ∷ []) ∙ ap (λ ys. first ++ ys) (sym one)

  -- one item more of a loop that begins with nothing
  pub all_more : {Z : Type 0} (F : Y → List Z) (xs : List X) (i : ℕ) (x : X) (old new : List Z) → i < length xs → x ≡ get_or xs i x
      → old ≡ flat_map F (map f (take i xs)) → new ≡ old ++ F (f x) → new ≡ flat_map F (map f (take (i + 1) xs))
  all_more F xs i x old new lt is old_is new_is = flat_more f F xs i x [] old new lt is old_is new_is

  -- a loop that added what each item has is done
  pub flat_done : {Z : Type 0} (F : Y → List Z) (xs : List X) (i : ℕ) (ys : List Y) (first now : List Z) → length xs ≤ i → map f xs ≡ ys
      → now ≡ first ++ flat_map F (map f (take i xs)) → now ≡ first ++ flat_map F ys
  flat_done F xs i ys first now le all now_is = now_is ∙ ap (λ zs. first ++ flat_map F (map f zs)) (take_all i xs le) ∙ ap (λ zs. first ++ flat_map F zs) all
