-- The lines that go on with a value.
use Rattle.std.specs.Prelude.{ℕ, ◌+◌, List, [], ◌∷◌, ◌==◌, ◌||◌, ◌&&◌, nat_lt, nat_le, if◌then◌else◌, Bool, true, false, Option, Some, None, length}
use Rattle.std.specs.Prelude.{map, drop, All, ◌≤◌, ◌^◌}
use Rattle.std.specs.Borrow.{Bor}
use Rattle.std.specs.List.{prefix_len}
use Rattle.yaml_lines.specs.Blanks.{is_blank_line, is_skipped, indentation}
use Rattle.yaml_lines.specs.Key.{begins_plain, negate}
use Rattle.yaml_lines.specs.Scan.{is_open, next_line, scan_line, at_place}
use Rattle.yaml_lines.specs.Feature.{header}
use Rattle.yaml_lines.specs.declared.scan.Place.TheVariants.{Inside}
use Rattle.yaml_lines.specs.declared.scan.Scan.{Scan}
use Rattle.yaml_lines.specs.declared.scan.Scanned.{Scanned}

-- the bytes of some lines
abbrev pub texts : List (Bor (List ℕ)) → List (List ℕ)
texts = map (λ (l : Bor (List ℕ)). l.now)

-- the line stands deeper than the key or mark that holds a value, at whose column that stands
abbrev pub is_deeper : Option ℕ → List ℕ → Bool
is_deeper None line = true
is_deeper (Some column) line = nat_lt column (indentation line)

-- at most a million lines and a few, each of at most a million bytes
pub record AreShort (lines : List (List ℕ)) : Type 0 where
  pub few : length lines ≤ 2 ^ 20
  pub each : All (λ l. length l ≤ 2 ^ 20) lines

-- how many lines go on with a quoted value or a flow sequence
abbrev pub open_len : Scan → List (List ℕ) → ℕ
open_len s [] = 0
open_len s (l ∷ ls) = if is_open s then 1 + open_len (scan_line (next_line s) l).scan ls else 0

-- so many more, where any line goes on with the value after some blank ones
abbrev pub past_gap : ℕ → ℕ
past_gap n = if n == 0 then 0 else n + 1

-- a plain value goes on with this line, which isn't blank
abbrev pub goes_on : Option ℕ → List ℕ → Bool
goes_on holder line = negate (is_skipped line) && is_deeper holder line

-- how many lines go on with a plain value: blank ones only where another follows, and none after a comment
abbrev pub plain_len : Option ℕ → List (List ℕ) → ℕ
plain_len holder [] = 0
plain_len holder (l ∷ ls) =
    if is_blank_line l then past_gap (plain_len holder ls)
    else (if negate (goes_on holder l) then 0
    else (if (scan_line (at_place Inside 0) l).comment then 1 else 1 + plain_len holder ls))

-- how many lines at the start are blank
abbrev pub blank_len : List (List ℕ) → ℕ
blank_len lines = prefix_len is_blank_line lines

-- the line is blank or has so many spaces at its start
abbrev pub is_in_column : ℕ → List ℕ → Bool
is_in_column column line = is_blank_line line || nat_le column (indentation line)

-- how many lines at the start are blank or have so many spaces at their start
abbrev pub column_len : ℕ → List (List ℕ) → ℕ
column_len column lines = prefix_len (is_in_column column) lines

-- how many lines belong to a block scalar whose first line that isn't blank comes after so many
abbrev pub block_from : Option ℕ → ℕ → List (List ℕ) → List (List ℕ) → ℕ
block_from holder blank lines [] = blank
block_from holder blank lines (l ∷ ls) = if is_deeper holder l then column_len (indentation l) lines else blank

-- how many lines belong to a block scalar
abbrev pub block_len : Option ℕ → List (List ℕ) → ℕ
block_len holder lines = block_from holder (blank_len lines) lines (drop (blank_len lines) lines)

-- a header without a digit
abbrev pub is_plain_header : Option Bool → Bool
is_plain_header (Some digit) = negate digit
is_plain_header None = false

-- the value is the header of a block scalar
abbrev pub is_block : List ℕ → Bool
is_block value = is_plain_header (header value)

-- how many lines go on with a value
abbrev pub body_len : List ℕ → Scanned → Option ℕ → List (List ℕ) → ℕ
body_len value s holder lines =
    if is_open s.scan then open_len s.scan lines
    else (if is_block value then block_len holder lines else (if begins_plain value && negate s.comment then plain_len holder lines else 0))
