-- The cells of the value that is written on a line and the lines that go on with it.
use Rattle.std.specs.Prelude.{◌≡◌, ℕ, ◌-◌, List, [], ◌∷◌, ◌++◌, ◌==◌, ◌||◌, if◌then◌else◌, Bool, false, Option, Some, None, Result, Ok, Err, length, drop}
use Rattle.std.specs.Option.{option_map, option_and_then}
use Rattle.yaml_lines.specs.Blanks.{before_blanks}
use Rattle.yaml_lines.specs.Lines.{head_of}
use Rattle.yaml_lines.specs.declared.line.YLine.{YLine}
use Rattle.yaml_lines.specs.declared.fault.YFault.{YFault}
use Rattle.yaml_lines.specs.declared.fault.YFault.TheVariants.{Memory, NoValue}
use Rattle.yaml_cells.specs.declared.cell.Cell.{Cell}
use Rattle.yaml_cells.specs.declared.value.YValue.TheVariants.{Quoted}
use Rattle.yaml_cells.specs.Word.{is_empty}
use Rattle.yaml_cells.specs.Scalar.{scalar_of}
use Rattle.yaml_cells.specs.Block.{header_of, block_of}
use Rattle.yaml_cells.specs.Flow.{scalar_cell, flow_cells, flow_text}

-- a line from where its value begins, with the blanks at its end, where no comment ends it
abbrev pub from_value : List ℕ → List ℕ → List ℕ
from_value raw value = drop (length (before_blanks raw) - length value) raw

-- the first line of a value. Where others follow, the blanks at its end count
abbrev pub first_line : List ℕ → YLine → List ℕ
first_line raw l = if is_empty l.body then l.value else from_value raw l.value

-- the cell of a plain or quoted scalar
abbrev pub scalar_cells : ℕ → List ℕ → YLine → Option (List Cell)
scalar_cells column raw l = scalar_cell column (scalar_of false (first_line raw l ∷ l.body))

-- the cell of a block scalar
abbrev pub block_cells : ℕ → Bool → YLine → Option (List Cell)
block_cells column ended l = option_and_then (λ h. scalar_cell column (option_map (λ t. Quoted t) (block_of h ended l.body))) (header_of l.value)

-- the first line of a flow sequence with others below it, where `comment` says that a comment ends it
abbrev pub flow_start : List ℕ → Bool → List ℕ → List ℕ
flow_start raw comment value = if comment then value else from_value raw value

-- the cells of a flow sequence of several lines, where `comment` says that a comment ends the first
abbrev pub lines_cells : ℕ → List ℕ → Bool → YLine → Option (List Cell)
lines_cells column raw comment l = option_and_then (flow_cells column) (flow_text (flow_start raw comment l.value) comment l.body)

-- a comment ends the line
abbrev pub has_comment : List ℕ → Bool
has_comment raw = (head_of raw).scanned.comment

-- the cells of a flow sequence
abbrev pub sequence_cells : ℕ → List ℕ → YLine → Option (List Cell)
sequence_cells column raw l = if is_empty l.body then flow_cells column l.value else lines_cells column raw (has_comment raw) l

-- the cells of a value that begins so
abbrev pub cells_by : List ℕ → ℕ → List ℕ → Bool → YLine → Option (List Cell)
cells_by [] column raw ended l = Some []
cells_by (b ∷ bs) column raw ended l =
    if b == 91 then sequence_cells column raw l else (if b == 124 || b == 62 then block_cells column ended l else scalar_cells column raw l)

-- the cells of the value of a line, which stands so in the text; `ended` says that its last line has a line end
abbrev pub leaf_cells : ℕ → List ℕ → Bool → YLine → Option (List Cell)
leaf_cells column raw ended l = cells_by l.value column raw ended l

-- the list has these cells more at its end, but for want of memory
abbrev pub Adds : Option (List Cell) → Result (Unit {0}) YFault → List Cell → List Cell → Type 0
Adds wanted (Ok u) old new = option_map (λ cs. old ++ cs) wanted ≡ Some new
Adds wanted (Err Memory) old new = Unit {0}
Adds wanted (Err e) old new = (e ≡ NoValue) × (wanted ≡ None)
