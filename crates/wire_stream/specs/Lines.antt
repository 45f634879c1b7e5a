-- The lines of commands.
use Rattle.std.specs.Prelude.{◌≡◌, ◌⊎◌, ◌≤◌, ℕ, List, ◌∷◌, ◌++◌, codes, ⊤}
use Rattle.std.specs.Fmt.{decimal}
use Rattle.std.specs.Str.{IsUtf8}
use Rattle.path_glob.specs.Path.{IsPath}

-- what a line asks for; a number is the length of the body that follows the line
pub data Line : Type 0 where
  Put : ℕ → List ℕ → Line
  Del : List ℕ → Line
  Rule : ℕ → List ℕ → Line
  Unrule : List ℕ → Line
  Sync : List ℕ → Line
  Scan : Line
  Fix : Line
  End : Line

-- a length in decimal without leading zeros, a space, and a name
abbrev pub sized_bytes : ℕ → List ℕ → List ℕ
sized_bytes n name = decimal n ++ 32 ∷ name

-- the bytes of a line, without its end
abbrev pub line_bytes : Line → List ℕ
line_bytes (Put n path) = codes "put " ++ sized_bytes n path
line_bytes (Del path) = codes "del " ++ path
line_bytes (Rule n name) = codes "rule " ++ sized_bytes n name
line_bytes (Unrule name) = codes "unrule " ++ name
line_bytes (Sync prefix) = codes "sync " ++ prefix
line_bytes Scan = codes "scan"
line_bytes Fix = codes "fix"
line_bytes End = codes "end"

-- a path in UTF-8
pub record IsName (bytes : List ℕ) : Type 0 where
  pub utf8 : IsUtf8 bytes
  pub path : IsPath bytes

-- a path in UTF-8, or `.` for all paths
abbrev pub IsPrefix : List ℕ → Type 0
IsPrefix bytes = IsName bytes ⊎ (bytes ≡ codes ".")

-- a body has at most 268,435,456 bytes
abbrev pub IsSized : ℕ → List ℕ → Type 0
IsSized n name = (n ≤ 268435456) × IsName name

-- the line has a number and a name that it may have
abbrev pub IsLine : Line → Type 0
IsLine (Put n path) = IsSized n path
IsLine (Del path) = IsName path
IsLine (Rule n name) = IsSized n name
IsLine (Unrule name) = IsName name
IsLine (Sync prefix) = IsPrefix prefix
IsLine Scan = ⊤
IsLine Fix = ⊤
IsLine End = ⊤
