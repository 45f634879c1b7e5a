-- The ids that a comment names.
use Rattle.std.specs.Prelude.{◌≡◌, ℕ, ◌==◌, Bool, nat_lt, List, [], ◌∷◌, map, filter, length, Option, None, Some}
use Rattle.std.specs.List.{slice_split}
use Rattle.std.specs.Borrow.{Bor}
use Rattle.quieting.specs.Words.{first_word}

-- what stands between commas, so that a text without a comma is one piece
abbrev pub pieces : List ℕ → List (List ℕ)
pieces t = slice_split (λ b. b == 44) t

abbrev pub has_word : List ℕ → Bool
has_word w = nat_lt 0 (length w)

-- the first word of each piece that has one
abbrev pub named : List (List ℕ) → List (List ℕ)
named ps = filter has_word (map first_word ps)

-- the ids that stand in a list with commas
abbrev pub ids_in : List ℕ → List (List ℕ)
ids_in t = named (pieces t)

-- ---- for private clauses

-- the pieces of what is left of a text, none where nothing is left
abbrev pub pieces_left : Option (Bor (List ℕ)) → List (List ℕ)
pieces_left None = []
pieces_left (Some t) = pieces t.now

-- the first of them, and what is left after it
abbrev pub IsFirst : Option (Bor (List ℕ)) → Bor (List ℕ) × Option (Bor (List ℕ)) → Type 0
IsFirst left x = pieces_left left ≡ x.0.now ∷ pieces_left x.1
