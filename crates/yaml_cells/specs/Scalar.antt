-- Plain and quoted scalars.
use Rattle.std.specs.Prelude.{ℕ, List, [], ◌∷◌, ◌==◌, if◌then◌else◌, Bool, Option, None}
use Rattle.std.specs.Option.{option_map}
use Rattle.yaml_lines.specs.Blanks.{past_blanks}
use Rattle.yaml_cells.specs.declared.value.YValue.{YValue}
use Rattle.yaml_cells.specs.declared.value.YValue.TheVariants.{Word, Quoted}
use Rattle.yaml_cells.specs.Word.{word}
use Rattle.yaml_cells.specs.Quoted.{quoted}

-- a plain scalar on these lines
abbrev pub plain_of : Bool → List (List ℕ) → Option YValue
plain_of closed lines = option_map (λ t. Word t) (word closed lines)

-- a quoted scalar on these lines
abbrev pub quoted_of : ℕ → List (List ℕ) → Option YValue
quoted_of quote lines = option_map (λ t. Quoted t) (quoted quote lines)

-- the scalar on these lines, whose text begins so
abbrev pub scalar_by : List ℕ → Bool → List (List ℕ) → Option YValue
scalar_by [] closed lines = plain_of closed lines
scalar_by (b ∷ bs) closed lines = if b == 39 then quoted_of 39 lines else (if b == 34 then quoted_of 34 lines else plain_of closed lines)

-- the scalar on these lines
abbrev pub scalar_of : Bool → List (List ℕ) → Option YValue
scalar_of closed [] = None
scalar_of closed (l ∷ ls) = scalar_by (past_blanks l) closed (l ∷ ls)
