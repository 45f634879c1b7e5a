-- Loops that add what each item has.
use Rattle.std.proofs.Common.{◌≡◌, ℕ, ◌+◌, ◌<◌, ◌≤◌, List, [], ◌∷◌, ◌++◌, length, take, map, get_or, append_assoc, sym, ap, ◌∙◌}
use Rattle.std.specs.List.{flat_map}
use Rattle.std.proofs.lemmas.List.{take_more, take_all, append-nil, get_or_default}
use Rattle.std.proofs.lemmas.List.Concat.{flat_map-append}
use Rattle.point_nodes.proofs.Parts.{flat_more}

module _ {X Z : Type 0} (F : X → List Z) where
  -- one item more
  pub plain_more : (xs : List X) (i : ℕ) (x : X) (first old new : List Z) → i < length xs → x ≡ get_or xs i x
      → old ≡ first ++ flat_map F (take i xs) → new ≡ old ++ F x → new ≡ first ++ flat_map F (take (i + 1) xs)
  plain_more xs i x first old new lt is old_is new_is =
      let one : take (i + 1) xs ≡ take i xs ++ x ∷ [] = take_more xs i x lt ∙ ap (λ y. take i xs ++ y ∷ []) (sym is) in
      let all : flat_map F (take (i + 1) xs) ≡ flat_map F (take i xs) ++ F x =
      ap (flat_map F) one ∙ flat_map-append F (take i xs) (x ∷ []) ∙ ap (λ ys. flat_map F (take i xs) ++ ys) (append-nil (F x)) in
      new_is ∙ ap (λ ys. ys ++ F x) old_is ∙ append_assoc first (flat_map F (take i xs)) (F x) ∙ ap (λ ys. first ++ ys) (sym all)

  -- all items
  pub plain_done : (xs : List X) (i : ℕ) (first now : List Z) → length xs ≤ i → now ≡ first ++ flat_map F (take i xs) → now ≡ first ++ flat_map F xs
  plain_done xs i first now le now_is = now_is ∙ ap (λ ys. first ++ flat_map F ys) (take_all i xs le)

  -- one item more of a walk
  pub walk_more : (x : X) (xs before : List X) (old new goal : List Z) → before ≡ x ∷ xs → goal ≡ old ++ flat_map F before → new ≡ old ++ F x → goal ≡ new ++ flat_map F xs
  walk_more x xs before old new goal before_is goal_is new_is =
      goal_is ∙ ap (λ ys. old ++ flat_map F ys) before_is ∙ sym (append_assoc old (F x) (flat_map F xs)) ∙ ap (λ ys. ys ++ flat_map F xs) (sym new_is)

  pub walk_done : (before : List X) (now goal : List Z) → before ≡ [] → goal ≡ now ++ flat_map F before → now ≡ goal
  walk_done before now goal before_is goal_is = sym (goal_is ∙ ap (λ ys. now ++ flat_map F ys) before_is ∙ append-nil now)

module _ {X Z : Type 0} (F : X → List Z) where
  -- one item more, where items are copied
  pub copied_more : (xs : List X) (i : ℕ) (d : X) (first old new : List Z) → i < length xs
      → old ≡ first ++ flat_map F (take i xs) → new ≡ old ++ F (get_or xs i d) → new ≡ first ++ flat_map F (take (i + 1) xs)
  copied_more xs i d first old new lt old_is new_is = plain_more F xs i (get_or xs i d) first old new lt (get_or_default xs i d (get_or xs i d) lt) old_is new_is

module _ {X Y Z : Type 0} (f : X → Y) (F : Y → List Z) where
  -- one item more, where items are seen as others
  pub seen_more : (xs : List X) (i : ℕ) (d : X) (first old new : List Z) → i < length xs
      → old ≡ first ++ flat_map F (map f (take i xs)) → new ≡ old ++ F (f (get_or xs i d)) → new ≡ first ++ flat_map F (map f (take (i + 1) xs))
  seen_more xs i d first old new lt old_is new_is = flat_more f F xs i (get_or xs i d) first old new lt (get_or_default xs i d (get_or xs i d) lt) old_is new_is
