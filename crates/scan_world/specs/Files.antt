-- Files by path.
use Rattle.std.specs.Prelude.{◌≡◌, ◌⊎◌, ℕ, List, [], ◌∷◌, ◌++◌, ⊤, Option, None, Some, codes, if◌then◌else◌}
use Rattle.std.specs.Str.{bytes_eq}
use Rattle.std.specs.declared.cmp.Ordering.{Ordering}
use Rattle.std.specs.declared.cmp.Ordering.TheVariants.{Less}
use Rattle.std.specs.Ordering.{nat_cmp}
use Rattle.std.specs.Cmp.Lexicographic.{slice_cmp}

-- a finite map from path to bytes, as pairs of both; of two pairs of one path the first counts
abbrev pub Files : Type 0
Files = List (List ℕ × List ℕ)

-- the bytes of the file of that path
abbrev pub file_at : List ℕ → Files → Option (List ℕ)
file_at path [] = None
file_at path (file ∷ files) = if bytes_eq file.0 path then Some file.1 else file_at path files

-- nothing follows a path, or a slash and more
abbrev pub IsBelow : List ℕ → Type 0
IsBelow [] = ⊤
IsBelow (byte ∷ bytes) = byte ≡ 47

-- the path is the prefix or lies in the folder of that name; all paths lie in the folder `.`
abbrev pub IsUnder : List ℕ → List ℕ → Type 0
IsUnder prefix path = (prefix ≡ codes ".") ⊎ ((rest : List ℕ) × (path ≡ prefix ++ rest) × IsBelow rest)

-- the order of paths: by bytes
abbrev pub path_cmp : List ℕ → List ℕ → Ordering
path_cmp a b = slice_cmp nat_cmp a b

-- each path is below the next, so each stands once
abbrev pub PathsAscend : List (List ℕ) → Type 0
PathsAscend [] = Unit {0}
PathsAscend (p ∷ []) = Unit {0}
PathsAscend (p ∷ q ∷ qs) = (path_cmp p q ≡ Less) × PathsAscend (q ∷ qs)
