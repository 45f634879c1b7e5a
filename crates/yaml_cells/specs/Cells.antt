-- The cells of a text.
use Rattle.std.specs.Prelude.{◌≡◌, ℕ, List, [], ◌∷◌, ◌==◌, nat_le, if◌then◌else◌, Bool, true, false, Option, Some, None}
use Rattle.yaml_cells.specs.declared.value.YValue.{YValue}
use Rattle.yaml_cells.specs.declared.cell.Cell.{Cell}
use Rattle.yaml_cells.specs.declared.cell.Cell.TheVariants.{Dash, Key, Scalar, Open, Close, Comma}
use Rattle.yaml_cells.specs.declared.cell.First.{First}
use Rattle.yaml_cells.specs.declared.cell.First.TheVariants as firsts

-- what stands at a column, if that is deep enough
abbrev pub deep : ℕ → ℕ → First → First
deep least column x = if nat_le least column then x else firsts.Nothing

-- what a cell is, where it stands deep enough
abbrev pub standing : ℕ → Cell → First
standing least (Dash c) = deep least c (firsts.Dash c)
standing least (Key c k) = deep least c (firsts.Key c)
standing least (Scalar c v) = deep least c firsts.Scalar
standing least (Open c) = deep least c firsts.Open
standing least Close = firsts.Close
standing least Comma = firsts.Comma

-- what the first cell is, where it stands deep enough
abbrev pub first_of : ℕ → List Cell → First
first_of least [] = firsts.Nothing
first_of least (x ∷ xs) = standing least x

-- the cells behind the first
abbrev pub cells_past : List Cell → List Cell
cells_past [] = []
cells_past (x ∷ xs) = xs

-- a mark at this column comes first
abbrev pub is_dash : ℕ → List Cell → Bool
is_dash column (Dash c ∷ xs) = c == column
is_dash column xs = false

-- the closing bracket of a flow sequence comes first
abbrev pub is_close : List Cell → Bool
is_close (Close ∷ xs) = true
is_close xs = false

-- a comma comes first
abbrev pub is_comma : List Cell → Bool
is_comma (Comma ∷ xs) = true
is_comma xs = false

-- an item of a flow sequence comes first
abbrev pub is_item : List Cell → Bool
is_item (Scalar c v ∷ xs) = true
is_item (Open c ∷ xs) = true
is_item xs = false

-- a key, and the cells behind it
pub record Keyed : Type 0 where
  pub key : List ℕ
  pub rest : List Cell

-- the key at this column, if it comes first
abbrev pub key_at : ℕ → List Cell → Option Keyed
key_at column (Key c k ∷ xs) = if c == column then Some (record { key = k; rest = xs }) else None
key_at column xs = None

-- the scalar that comes first, and the cells behind it
abbrev pub scalar_at : List Cell → Option (YValue × List Cell)
scalar_at (Scalar c v ∷ xs) = Some (v, xs)
scalar_at xs = None

-- a key at this column comes first
abbrev pub is_key : ℕ → List Cell → Bool
is_key column (Key c k ∷ xs) = c == column
is_key column xs = false

-- the key at this column was taken, if it came first
abbrev pub IsKeyTaken : ℕ → List Cell → Option (List ℕ) → List Cell → Type 0
IsKeyTaken column old (Some key) new = key_at column old ≡ Some (record { key = key; rest = new })
IsKeyTaken column old None new = (key_at column old ≡ None) × (new ≡ old)
