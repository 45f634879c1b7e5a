-- What a list of refused texts gained.
use Rattle.std.specs.Prelude.{◌≡◌, ℕ, List, ◌++◌, length, drop}

-- what the new list has behind as many as the old one has
abbrev pub gained : List (List ℕ) → List (List ℕ) → List (List ℕ)
gained old new = drop (length old) new

-- the new list begins with the old one
abbrev pub Gains : List (List ℕ) → List (List ℕ) → Type 0
Gains old new = new ≡ old ++ gained old new
