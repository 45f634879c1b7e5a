-- When a pattern, a list of signs, fits a list.
use Rattle.std.specs.Prelude.{◌≡◌, List, [], ◌∷◌, ◌++◌}

-- the signs stand for runs of items one after the other, and what is left may end the list
abbrev pub Fits : {P X : Type 0} → (P → List X → Type 0) → (List X → Type 0) → List P → List X → Type 0
Fits Stands Ends [] xs = Ends xs
Fits {X = X} Stands Ends (p ∷ ps) xs = (run : List X) × (rest : List X) × (xs ≡ run ++ rest) × Stands p run × Fits Stands Ends ps rest

-- the signs fit the list from some place on
abbrev pub FitsLater : {P X : Type 0} → (P → List X → Type 0) → (List X → Type 0) → List P → List X → Type 0
FitsLater {X = X} Stands Ends ps xs = (skipped : List X) × (rest : List X) × (xs ≡ skipped ++ rest) × Fits Stands Ends ps rest
