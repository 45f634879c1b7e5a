-- The cells of flow sequences: YAML 1.2.2, 7.4.1.
use Rattle.std.specs.Prelude.{ℕ, List, [], ◌∷◌, ◌++◌, ◌==◌, ◌||◌, ◌&&◌, nat_lt, if◌then◌else◌, Bool, true, false, Option, Some, None, take}
use Rattle.std.specs.List.{slice_split}
use Rattle.std.specs.Option.{option_map, option_and_then}
use Rattle.yaml_lines.specs.Blanks.{is_blank, is_skipped}
use Rattle.yaml_lines.specs.Scan.{scan_line, at_place, next_line, after, begins_comment}
use Rattle.yaml_lines.specs.declared.scan.Place.{Place}
use Rattle.yaml_lines.specs.declared.scan.Place.TheVariants.{Begin, Inside, Single, SingleEnd, Double, Escape}
use Rattle.yaml_lines.specs.declared.scan.Scan.{Scan}
use Rattle.yaml_lines.specs.declared.scan.Scanned.{Scanned}
use Rattle.yaml_cells.specs.declared.cell.Cell.{Cell}
use Rattle.yaml_cells.specs.declared.cell.Cell.TheVariants.{Scalar, Open, Close, Comma}
use Rattle.yaml_cells.specs.declared.value.YValue.{YValue}
use Rattle.yaml_cells.specs.Quoted.{is_rest}
use Rattle.yaml_cells.specs.Scalar.{scalar_of}

-- the byte ends an item, where a sequence is open
abbrev pub is_end : ℕ → ℕ → Bool
is_end depth b = nat_lt 0 depth && (b == 44 || b == 93)

-- the byte is a bracket or a comma, and no part of a scalar, at each place
abbrev pub is_sign_at : Place → ℕ → ℕ → Bool
is_sign_at Begin depth b = b == 91 || is_end depth b
is_sign_at Inside depth b = is_end depth b
is_sign_at Single depth b = false
is_sign_at SingleEnd depth b = is_end depth b
is_sign_at Double depth b = false
is_sign_at Escape depth b = false

-- the byte is a bracket or a comma, and no part of a scalar
abbrev pub is_sign : Scan → ℕ → Bool
is_sign s b = is_sign_at s.place s.depth b

-- the cell of a bracket or a comma
abbrev pub sign_of : ℕ → ℕ → Cell
sign_of column b = if b == 91 then Open column else (if b == 44 then Comma else Close)

-- a blank or a line's end, behind which `#` begins a comment
abbrev pub is_gap : ℕ → Bool
is_gap b = is_blank b || b == 10

-- the place after one more byte of lines of whose comments the `#` alone is left
abbrev pub step : Bool → Scan → ℕ → Scan
step gap s b = if b == 10 then next_line s else (if begins_comment gap s.place b then s else after s b)

-- the lines from the first that isn't blank and no comment
abbrev pub past_skipped : List (List ℕ) → List (List ℕ)
past_skipped [] = []
past_skipped (l ∷ ls) = if is_skipped l then past_skipped ls else l ∷ ls

-- the same, where a comment on the first line has a blank before it
abbrev pub from_content : List (List ℕ) → List (List ℕ)
from_content [] = []
from_content (l ∷ ls) = if is_rest l then past_skipped ls else l ∷ ls

-- a scalar's cell
abbrev pub scalar_cell : ℕ → Option YValue → Option (List Cell)
scalar_cell column v = option_map (λ x. Scalar column x ∷ []) v

-- the cell of the scalar on these lines, if there are some
abbrev pub lines_cells : ℕ → Bool → List (List ℕ) → Option (List Cell)
lines_cells column closed [] = Some []
lines_cells column closed (l ∷ ls) = scalar_cell column (scalar_of closed (l ∷ ls))

-- the cell of what stands between two signs, if that is a scalar
abbrev pub piece_cells : ℕ → Bool → List ℕ → Option (List Cell)
piece_cells column closed piece = lines_cells column closed (from_content (slice_split (λ b. b == 10) piece))

-- cells before others
abbrev pub before_cells : Option (List Cell) → Option (List Cell) → Option (List Cell)
before_cells xs ys = option_and_then (λ x. option_map (λ y. x ++ y) ys) xs

-- the cells of what is left of a flow sequence, where the piece since the last sign goes on
abbrev pub flow_from : ℕ → Scan → Bool → List ℕ → List ℕ → Option (List Cell)
flow_from column s gap piece [] = piece_cells column false piece
flow_from column s gap piece (b ∷ bs) =
    if is_sign s b then before_cells (piece_cells column true piece) (option_map (λ cs. sign_of column b ∷ cs) (flow_from column (step gap s b) (is_gap b) [] bs))
    else flow_from column (step gap s b) (is_gap b) (piece ++ b ∷ []) bs

-- the cells of a flow sequence
abbrev pub flow_cells : ℕ → List ℕ → Option (List Cell)
flow_cells column text = flow_from column (at_place Begin 0) true [] text

-- a line up to its comment, of which the `#` is left
abbrev pub kept : Scanned → List ℕ → List ℕ
kept r line = take r.len line ++ (if r.comment then 35 ∷ [] else [])

-- the further lines of a flow sequence, with line feeds before them, unless more than a hundred sequences are open
abbrev pub flow_lines : Scan → List (List ℕ) → Option (List ℕ)
flow_lines s [] = Some []
flow_lines s (l ∷ ls) =
    if nat_lt 100 s.depth then None
    else option_map (λ more. (10 ∷ kept (scan_line (next_line s) l) l) ++ more) (flow_lines (scan_line (next_line s) l).scan ls)

-- the first line of a flow sequence, where `comment` says that a comment follows
abbrev pub flow_first : List ℕ → Bool → List ℕ
flow_first first comment = first ++ (if comment then 32 ∷ 35 ∷ [] else [])

-- the lines of a flow sequence
abbrev pub flow_text : List ℕ → Bool → List (List ℕ) → Option (List ℕ)
flow_text first comment body = option_map (λ more. flow_first first comment ++ more) (flow_lines (scan_line (at_place Begin 0) first).scan body)
