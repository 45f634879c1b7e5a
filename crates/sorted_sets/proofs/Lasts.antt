-- Lists with one item more at the end.
use Rattle.std.proofs.Common.{◌≡◌, ◌⊎◌, inl, inr, List, [], ◌∷◌, ◌++◌, refl, subst}
use Rattle.node_match.specs.Sets.{Among}
use Rattle.sorted_sets.specs.Sizes.{Each}

pub among_front : {X : Type 0} (xs : List X) (y x : X) → Among xs x → Among (xs ++ y ∷ []) x
among_front [] y x h = elim h [ ]
among_front (z ∷ zs) y x (inl e) = inl e
among_front (z ∷ zs) y x (inr h) = inr (among_front zs y x h)

pub among_end : {X : Type 0} (xs : List X) (y : X) → Among (xs ++ y ∷ []) y
among_end [] y = inl refl
among_end (z ∷ zs) y = inr (among_end zs y)

pub among_snoc : {X : Type 0} (xs : List X) (y x : X) → Among (xs ++ y ∷ []) x → Among xs x ⊎ (y ≡ x)
among_snoc [] y x (inl e) = inr e
among_snoc [] y x (inr h) = elim h [ ]
among_snoc (z ∷ zs) y x (inl e) = inl (inl e)
among_snoc (z ∷ zs) y x (inr h) = at (among_snoc zs y x h)
  where
    at : Among zs x ⊎ (y ≡ x) → Among (z ∷ zs) x ⊎ (y ≡ x)
    at (inl k) = inl (inr k)
    at (inr e) = inr e

pub each_snoc : {X : Type 0} (P : X → Type 0) (xs : List X) (y : X) → Each P xs → P y → Each P (xs ++ y ∷ [])
each_snoc P xs y all one x h = at (among_snoc xs y x h)
  where
    at : Among xs x ⊎ (y ≡ x) → P x
    at (inl k) = all x k
    at (inr e) = subst P e one
