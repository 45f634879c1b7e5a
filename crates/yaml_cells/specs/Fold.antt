-- How the lines of plain and quoted scalars fold: YAML 1.2.2, 6.5.
use Rattle.std.specs.Prelude.{ℕ, ◌+◌, List, [], ◌∷◌, ◌++◌, ◌==◌, if◌then◌else◌, Bool, true, false, replicate}
use Rattle.yaml_cells.specs.declared.fold.Line.{Line}
use Rattle.yaml_cells.specs.declared.fold.Line.TheVariants.{Blank, Text, Joined}

-- so many line feeds
abbrev pub breaks : ℕ → List ℕ
breaks n = replicate n 10

-- what stands between two lines with so many blank ones between them: where there is none, a space or nothing
abbrev pub between : ℕ → Bool → List ℕ
between gap spaced = if gap == 0 then (if spaced then 32 ∷ [] else []) else breaks gap

-- what lines say after so many blank ones: one line end is a space, and n blank lines are n line feeds
abbrev pub folded_from : ℕ → Bool → List Line → List ℕ
folded_from gap spaced [] = []
folded_from gap spaced (Blank ∷ ls) = folded_from (gap + 1) spaced ls
folded_from gap spaced (Text t ∷ ls) = (between gap spaced ++ t) ++ folded_from 0 true ls
folded_from gap spaced (Joined t ∷ ls) = (between gap spaced ++ t) ++ folded_from 0 false ls

-- what lines say
abbrev pub folded : List Line → List ℕ
folded ls = folded_from 0 false ls
