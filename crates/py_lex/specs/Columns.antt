-- The columns of open blocks, the innermost first.
use Rattle.std.specs.Prelude.{ℕ, List, [], ◌∷◌}

-- the column of the innermost block, or 0
abbrev pub top : List ℕ → ℕ
top [] = 0
top (c ∷ cs) = c
