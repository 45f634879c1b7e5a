-- Lists by their last item.
use Rattle.std.specs.Prelude.{◌≡◌, ◌⊎◌, List, [], ◌∷◌, ◌++◌}

-- the item is the last of the list
abbrev pub EndsWith : {X : Type 0} → List X → X → Type 0
EndsWith {X} xs x = (ys : List X) × (xs ≡ ys ++ x ∷ [])

-- the list with the item at its end, which isn't put behind itself
abbrev pub IsEndedBy : {X : Type 0} → List X → List X → X → Type 0
IsEndedBy old new x = (EndsWith old x × (new ≡ old)) ⊎ ((EndsWith old x → ⊥) × (new ≡ old ++ x ∷ []))
