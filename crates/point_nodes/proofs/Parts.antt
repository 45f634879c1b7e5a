-- Parts of lists, and loops that add what each item has.
use Rattle.std.proofs.Common.{◌≡◌, ℕ, zero, suc, ◌+◌, ◌<◌, List, [], ◌∷◌, ◌++◌, length, take, drop, map, get_or, append_assoc, sym, ap, ◌∙◌, arith}
use Rattle.std.specs.List.{flat_map}
use Rattle.std.proofs.lemmas.List.{take_more, take-map, drop-map, append-nil, map-append}
use Rattle.std.proofs.lemmas.List.Concat.{flat_map-cons, flat_map-append}
use Rattle.point_nodes.specs.Tops.{part}

module _ {X Y : Type 0} (f : X → Y) where
  -- a part of some items, as they are seen
  pub part_seen : (k : ℕ) (xs : List X) → map f (part k xs) ≡ part k (map f xs)
  part_seen k xs = sym (take-map f 1 (drop k xs)) ∙ ap (take 1) (sym (drop-map f k xs))

  pub part_at : (k : ℕ) (xs : List X) (x : X) → k < length xs → x ≡ get_or xs k x → part k (map f xs) ≡ f x ∷ []
  part_at k [] x lt is = absurd (omega (arith, lt))
  part_at zero (y ∷ ys) x lt is = ap (λ z. f z ∷ []) (sym is)
  part_at (suc k) (y ∷ ys) x lt is = part_at k ys x (omega (arith, lt)) is

  -- one item more of a loop that adds what each has
  pub flat_more : {Z : Type 0} (F : Y → List Z) (xs : List X) (i : ℕ) (x : X) (first old new : List Z) → i < length xs → x ≡ get_or xs i x
      → old ≡ first ++ flat_map F (map f (take i xs)) → new ≡ old ++ F (f x) → new ≡ first ++ flat_map F (map f (take (i + 1) xs))
  flat_more F xs i x first old new lt is old_is new_is =
      let one : map f (take (i + 1) xs) ≡ map f (take i xs) ++ f x ∷ [] =
      ap (map f) (take_more xs i x lt ∙ ap (λ y. take i xs ++ y ∷ []) (sym is)) ∙ map-append f (take i xs) (x ∷ []) in
      let all : flat_map F (map f (take (i + 1) xs)) ≡ flat_map F (map f (take i xs)) ++ F (f x) =
      ap (flat_map F) one ∙ flat_map-append F (map f (take i xs)) (f x ∷ []) ∙ ap (λ ys. flat_map F (map f (take i xs)) ++ ys) (flat_map-cons F (f x) [] ∙ append-nil (F (f x))) in
      new_is ∙ ap (λ ys. ys ++ F (f x)) old_is ∙ append_assoc first (flat_map F (map f (take i xs))) (F (f x)) ∙ ap (λ ys. first ++ ys) (sym all)
