-- What is left of a dotted name, for private clauses.
use Rattle.std.specs.Prelude.{◌≡◌, ℕ, List, [], ◌∷◌, Option, None, Some}
use Rattle.std.specs.Borrow.{Bor}
use Rattle.import_names.specs.Claims.{dotted}

-- the parts of what is left of a text, none where nothing is left
abbrev pub parts_left : Option (Bor (List ℕ)) → List (List ℕ)
parts_left None = []
parts_left (Some t) = dotted t.now

-- the first of them, and what is left after it
abbrev pub IsFirst : Option (Bor (List ℕ)) → Bor (List ℕ) × Option (Bor (List ℕ)) → Type 0
IsFirst left x = parts_left left ≡ x.0.now ∷ parts_left x.1
