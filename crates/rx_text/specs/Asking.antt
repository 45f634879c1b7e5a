-- The texts that a builder was asked for.
use Rattle.std.specs.Prelude.{◌≡◌, ⊤, ℕ, List, ◌++◌, Option, None, Some}

-- these texts were asked for, one after the other, where that is told
abbrev pub AsksAll : Option (List (List ℕ)) → Option (List (List ℕ)) → List (List ℕ) → Type 0
AsksAll None new texts = ⊤
AsksAll (Some old) None texts = ⊥
AsksAll (Some old) (Some new) texts = new ≡ old ++ texts
