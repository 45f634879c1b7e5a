-- The value of a YAML text.
use Rattle.std.specs.Prelude.{◌≡◌, ℕ, ◌+◌, ◌-◌, List, [], ◌∷◌, ◌++◌, ◌||◌, nat_lt, if◌then◌else◌, Bool, Option, Some, None, Result, Ok, Err, length, map, get_or, reverse}
use Rattle.std.specs.Option.{option_and_then}
use Rattle.std.specs.Str.Lines.{lines}
use Rattle.yaml_lines.specs.Lines.{lines_of, past_order_mark, is_some}
use Rattle.yaml_lines.specs.Feature.{begins_with}
use Rattle.yaml_lines.specs.declared.line.YLine.{YLine}
use Rattle.yaml_lines.specs.declared.fault.YFault.{YFault}
use Rattle.yaml_lines.specs.declared.fault.YFault.TheVariants.{Memory, NoValue}
use Rattle.yaml_cells.specs.declared.cell.Cell.{Cell}
use Rattle.yaml_cells.specs.declared.cell.Cell.TheVariants.{Dash, Key}
use Rattle.yaml_cells.specs.declared.value.YValue.{YValue}
use Rattle.yaml_cells.specs.Flow.{before_cells}
use Rattle.yaml_cells.specs.Leaf.{leaf_cells}
use Rattle.yaml_read.specs.Building.{Built, node_at}
use Rattle.yaml_read.specs.Builds.{Builds}

-- the line with a number, counted from 1
abbrev pub line_at : List (List ℕ) → ℕ → List ℕ
line_at all number = get_or all (number - 1) []

-- the last line of a value has a line end; `closed` says that of the last line of the text, which has so many
abbrev pub is_ended : YLine → ℕ → Bool → Bool
is_ended l count closed = closed || nat_lt (l.number + length l.body) count

-- the cell of a key, if there is one
abbrev pub key_cells : ℕ → Option (List ℕ) → List Cell
key_cells column None = []
key_cells column (Some k) = Key column k ∷ []

-- the cells of marks
abbrev pub dash_cells : List ℕ → List Cell
dash_cells columns = map (λ c. Dash c) columns

-- the cells of the marks and the key of a line
abbrev pub mark_cells : YLine → List Cell
mark_cells l = dash_cells l.dashes ++ key_cells l.column l.key

-- the column of the value on a line: what stands behind a key is deeper than the key
abbrev pub value_column : YLine → ℕ
value_column l = if is_some l.key then l.column + 1 else l.column

-- the cells of a line
abbrev pub line_cells : List (List ℕ) → Bool → YLine → Option (List Cell)
line_cells all closed l = before_cells (Some (mark_cells l)) (leaf_cells (value_column l) (line_at all l.number) (is_ended l (length all) closed) l)

-- the cells of a text that has these lines, of which some begin a value
abbrev pub cells_of : List (List ℕ) → Bool → List YLine → Option (List Cell)
cells_of all closed [] = Some []
cells_of all closed (l ∷ ls) = before_cells (line_cells all closed l) (cells_of all closed ls)

-- the cells are these, but for want of memory
abbrev pub IsCells : Option (List Cell) → Result (List Cell) YFault → Type 0
IsCells wanted (Ok cells) = wanted ≡ Some cells
IsCells wanted (Err Memory) = Unit {0}
IsCells wanted (Err e) = (e ≡ NoValue) × (wanted ≡ None)

-- the last byte is a line feed
abbrev pub ends_line : List ℕ → Bool
ends_line bytes = begins_with 10 (reverse bytes)

-- the value, if no cells are left
abbrev pub whole : Built → Option YValue
whole (v, []) = Some v
whole (v, x ∷ xs) = None

-- the value that all the cells build, of depth at most 100
abbrev pub built : List Cell → Option YValue
built cells = option_and_then whole (node_at 100 0 cells)

-- a value, or none
abbrev pub or_none : Option YValue → Result YValue YFault
or_none None = Err NoValue
or_none (Some v) = Ok v

-- the lines of a text
abbrev pub text_lines : List ℕ → List (List ℕ)
text_lines bytes = lines (past_order_mark bytes)

-- the value of a text that has these lines
abbrev pub value_with : List ℕ → Result (List YLine) YFault → Result YValue YFault
value_with bytes (Err e) = Err e
value_with bytes (Ok ls) = or_none (option_and_then built (cells_of (text_lines bytes) (ends_line bytes) ls))

-- the value of a text, or why there is none
abbrev pub value_of : List ℕ → Result YValue YFault
value_of bytes = value_with bytes (lines_of bytes)

-- a value of a text: its lines have no feature outside the profile, each scalar in it is one, and all its cells build the value, of depth at most 100
pub record IsValueOf (bytes : List ℕ) (v : YValue) : Type 0 where
  pub found : List YLine
  pub lines : lines_of bytes ≡ Ok found
  pub cells : List Cell
  pub scalars : cells_of (text_lines bytes) (ends_line bytes) found ≡ Some cells
  pub builds : Builds 100 0 cells v
