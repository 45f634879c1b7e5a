-- The lines of a text that begin a value.
use Rattle.std.specs.Prelude.{◌≡◌, ℕ, ◌+◌, ◌-◌, zero, suc, List, [], ◌∷◌, ◌==◌, ◌||◌, ◌&&◌, if◌then◌else◌, Bool, true, false, Option, Some, None, Result, Ok, Err, length}
use Rattle.std.specs.Prelude.{take, drop}
use Rattle.std.specs.Option.{option_map}
use Rattle.std.specs.Str.{is_utf8}
use Rattle.std.specs.Str.Lines.{lines}
use Rattle.yaml_lines.specs.Blanks.{past_blanks, before_blanks, is_skipped}
use Rattle.yaml_lines.specs.Marks.{Marked, marks_of}
use Rattle.yaml_lines.specs.Scan.{scan_line, at_place}
use Rattle.yaml_lines.specs.Key.{Keyed, key_of}
use Rattle.yaml_lines.specs.Feature.{line_feature, content_feature, value_feature, or_else, is_start}
use Rattle.yaml_lines.specs.Body.{body_len}
use Rattle.yaml_lines.specs.declared.scan.Place.TheVariants.{Begin}
use Rattle.yaml_lines.specs.declared.scan.Scanned.{Scanned}
use Rattle.yaml_lines.specs.declared.line.YLine.{YLine}
use Rattle.yaml_lines.specs.declared.read.Value.{Value}
use Rattle.yaml_lines.specs.declared.fault.YFault.{YFault}
use Rattle.yaml_lines.specs.declared.fault.YFault.TheVariants.{Memory, NotUtf8, OutsideProfile}
use Rattle.yaml_lines.specs.declared.fault.Feature.{Feature}
use Rattle.yaml_lines.specs.declared.fault.Feature.TheVariants.{Tab}

-- what stands after marks and key
abbrev pub rest_of : List ℕ → Option Keyed → List ℕ
rest_of content None = content
rest_of content (Some k) = past_blanks k.rest

-- the list has no item
abbrev pub is_empty : {X : Type 0} → List X → Bool
is_empty [] = true
is_empty (x ∷ xs) = false

-- there is a value
abbrev pub is_some : {X : Type 0} → Option X → Bool
is_some None = false
is_some (Some x) = true

-- a line by itself: its marks, its key, and the value's text
pub record Head : Type 0 where
  pub marks : Marked
  pub key : Option (List ℕ)
  pub scanned : Scanned
  pub value : List ℕ

-- what a line says by itself
abbrev pub head_of : List ℕ → Head
head_of line =
    let marks = marks_of line in
    let key = key_of marks.content in
    let rest = rest_of marks.content key in
    let scanned = scan_line (at_place Begin 0) rest in
    record { marks = marks; key = option_map (λ k. k.content) key; scanned = scanned; value = before_blanks (take scanned.len rest) }

-- a tab stands in the indentation: before a mark, or before a key, or before the value of a line without marks
abbrev pub is_tabbed : Head → Bool
is_tabbed h = h.marks.tab_before || (h.marks.tab_after && (is_empty h.marks.dashes || is_some h.key))

-- the first feature of a line
abbrev pub feature_of : List ℕ → Head → Option Feature
feature_of line h =
    or_else (line_feature line) (or_else (if is_tabbed h then Some Tab else None) (or_else (content_feature h.marks.content) (value_feature h.value)))

-- the last of some columns, or the one above
abbrev pub last_or : Option ℕ → List ℕ → Option ℕ
last_or above [] = above
last_or above (x ∷ xs) = last_or (Some x) xs

-- the column of what follows the marks
abbrev pub column_of : List ℕ → Head → ℕ
column_of line h = length line - length h.marks.content

-- the column of the last key or mark, also of those above
abbrev pub holder_of : List ℕ → Head → Option ℕ → Option ℕ
holder_of line h above = if is_some h.key then Some (column_of line h) else last_or above h.marks.dashes

-- the line with its number and the lines that go on with its value
abbrev pub line_of : ℕ → List ℕ → Head → List (List ℕ) → YLine
line_of number line h body =
    record { number = number; column = column_of line h; dashes = h.marks.dashes; key = h.key; value = h.value; body = body }

-- one more line before the others
abbrev pub with_line : YLine → Result (List YLine) YFault → Result (List YLine) YFault
with_line l (Ok ls) = Ok (l ∷ ls)
with_line l (Err e) = Err e

-- the value of a line without such a feature
abbrev pub value_with : ℕ → Option ℕ → List ℕ → Head → List (List ℕ) → Value
value_with number above l h ls =
    let holder = holder_of l h above in
    let len = body_len h.value h.scanned holder ls in
    record { line = line_of number l h (take len ls); holder = holder; len = len }

-- the value, unless there is a feature
abbrev pub value_unless : Option Feature → ℕ → Option ℕ → List ℕ → Head → List (List ℕ) → Result Value YFault
value_unless (Some feature) number above l h ls = Err (OutsideProfile feature number)
value_unless None number above l h ls = Ok (value_with number above l h ls)

-- the value that a line begins, or its first feature outside the profile
abbrev pub value_of : ℕ → Option ℕ → List ℕ → List (List ℕ) → Result Value YFault
value_of number above l ls = value_unless (feature_of l (head_of l)) number above l (head_of l) ls

-- the value's line before those that are read from what is left
abbrev pub go_on : (ℕ → Option ℕ → List (List ℕ) → Result (List YLine) YFault) → ℕ → List (List ℕ) → Result Value YFault → Result (List YLine) YFault
go_on read number ls (Err e) = Err e
go_on read number ls (Ok v) = with_line v.line (read (number + v.len) v.holder (drop v.len ls))

-- the line is the mark `---`, where `fresh` says that nothing stands above it
abbrev pub is_first_mark : Bool → List ℕ → Bool
is_first_mark fresh l = fresh && is_start l

-- the lines that begin a value, where `number` lines stand above, and `fresh` says that none of those has content; the first number is at least how many lines there are
abbrev pub lines_at : ℕ → ℕ → Bool → Option ℕ → List (List ℕ) → Result (List YLine) YFault
lines_at fuel number fresh above [] = Ok []
lines_at zero number fresh above (l ∷ ls) = Ok []
lines_at (suc fuel) number fresh above (l ∷ ls) =
    if is_skipped l then lines_at fuel (number + 1) fresh above ls
    else (if is_first_mark fresh l then lines_at fuel (number + 1) false above ls
    else go_on (λ n holder rest. lines_at fuel n false holder rest) (number + 1) ls (value_of (number + 1) above l ls))

-- a text without a byte order mark
abbrev pub past_order_mark : List ℕ → List ℕ
past_order_mark (a ∷ b ∷ c ∷ bs) = if a == 239 && b == 187 && c == 191 then bs else a ∷ b ∷ c ∷ bs
past_order_mark bs = bs

-- those of all lines
abbrev pub all_lines : List (List ℕ) → Result (List YLine) YFault
all_lines all = lines_at (length all) 0 true None all

-- the lines of a text that begin a value, or its first fault
abbrev pub lines_of : List ℕ → Result (List YLine) YFault
lines_of bytes = if is_utf8 (past_order_mark bytes) then all_lines (lines (past_order_mark bytes)) else Err NotUtf8

-- the result is this one, but for want of memory
abbrev pub Gives : {X : Type 0} → Result X YFault → Result X YFault → Type 0
Gives wanted (Err Memory) = Unit {0}
Gives wanted result = result ≡ wanted
