-- Quoted scalars: YAML 1.2.2, 7.3.1 and 7.3.2.
use Rattle.std.specs.Prelude.{ℕ, ◌-◌, List, [], ◌∷◌, ◌++◌, ◌==◌, ◌&&◌, if◌then◌else◌, Bool, true, false, Option, Some, None, take, drop, length, encode_utf8_all, slice_get}
use Rattle.std.specs.Option.{option_map, option_and_then}
use Rattle.std.specs.Str.{chars, is_utf8}
use Rattle.yaml_lines.specs.Blanks.{past_blanks, before_blanks, ends_sign, is_skipped, is_blank_line}
use Rattle.yaml_lines.specs.Key.{negate, quoted_at}
use Rattle.yaml_lines.specs.Scan.{at_place}
use Rattle.yaml_lines.specs.Escape.{step_of, undoubled_at}
use Rattle.yaml_lines.specs.declared.escape.Reading.{Reading}
use Rattle.yaml_lines.specs.declared.escape.Reading.TheVariants.{Plain, Escape, Code}
use Rattle.yaml_lines.specs.declared.escape.Step.{Step}
use Rattle.yaml_lines.specs.declared.escape.Step.TheVariants.{Fails, Reads, Gives}
use Rattle.yaml_lines.specs.declared.scan.Place.TheVariants.{Single, Double}
use Rattle.yaml_lines.specs.declared.scan.Scan.{Scan}
use Rattle.yaml_cells.specs.declared.fold.Line.{Line}
use Rattle.yaml_cells.specs.declared.fold.Line.TheVariants.{Blank, Text, Joined}
use Rattle.yaml_cells.specs.Fold.{folded}
use Rattle.yaml_cells.specs.Word.{onto}

-- the characters of a text without its escapes, and what the next character would be
abbrev pub Unescaped : Type 0
Unescaped = List ℕ × Reading

-- a character before others
abbrev pub char_onto : ℕ → Option Unescaped → Option Unescaped
char_onto c r = option_map (λ u. (c ∷ u.0, u.1)) r

-- the same behind a character that does this
abbrev pub after_step : (Reading → Option Unescaped) → Step → Option Unescaped
after_step read Fails = None
after_step read (Reads next) = read next
after_step read (Gives c) = char_onto c (read Plain)

-- the characters of a text without its escapes
abbrev pub unescaped : Reading → List ℕ → Option Unescaped
unescaped reading [] = Some ([], reading)
unescaped reading (c ∷ cs) = after_step (λ next. unescaped next cs) (step_of reading c)

-- the blank that a backslash escapes
abbrev pub escaped_blank : ℕ → ℕ
escaped_blank b = if b == 9 then 9 else 32

-- what a line between double quotes says, where `next` is the blank behind it: a backslash at its end escapes that, or the line's end
abbrev pub ended : Option ℕ → List ℕ → Reading → Option Line
ended next content Plain = Some (Text content)
ended None content Escape = Some (Joined content)
ended (Some b) content Escape = Some (Text (content ++ escaped_blank b ∷ []))
ended next content (Code left value) = None

-- the bytes of the characters
abbrev pub encoded : Unescaped → Unescaped
encoded u = (encode_utf8_all u.0, u.1)

-- what some characters between double quotes say
abbrev pub double_row : Option ℕ → List ℕ → Option Line
double_row next cs = option_and_then (λ u. ended next u.0 u.1) (option_map encoded (unescaped Plain cs))

-- what some characters between single quotes say
abbrev pub single_row : List ℕ → Option Line
single_row cs = Some (Text (encode_utf8_all (undoubled_at false cs)))

-- what a line between such quotes says. The bytes of a text are UTF-8
abbrev pub row : ℕ → Option ℕ → List ℕ → Option Line
row quote next text =
    if is_utf8 text then (if quote == 34 then double_row next (chars text) else single_row (chars text))
    else None

-- what a line says that doesn't end the scalar
abbrev pub inner_row : ℕ → Bool → List ℕ → Option Line
inner_row quote first text =
    if negate first && is_blank_line text then Some Blank else row quote (slice_get text (length (before_blanks text))) (before_blanks text)

-- nothing follows a scalar but a comment, which has a blank before it
abbrev pub is_rest : List ℕ → Bool
is_rest rest = ends_sign rest && is_skipped rest

-- what the line says that ends the scalar with so many bytes, its quote with them
abbrev pub last_row : ℕ → List ℕ → ℕ → Option Line
last_row quote text len = if is_rest (drop len text) then row quote None (take (len - 1) text) else None

-- such quotes are open
abbrev pub inside : ℕ → Scan
inside quote = at_place (if quote == 34 then Double else Single) 0

-- each line is blank or a comment
abbrev pub are_skipped : List (List ℕ) → Bool
are_skipped [] = true
are_skipped (l ∷ ls) = is_skipped l && are_skipped ls

-- a text without its first byte
abbrev pub tail : List ℕ → List ℕ
tail [] = []
tail (b ∷ bs) = bs

-- the part of a line that belongs to the scalar, without the quote that begins it and the blanks before it
abbrev pub part : Bool → List ℕ → List ℕ
part first line = if first then tail (past_blanks line) else past_blanks line

-- what the lines of a quoted scalar say, where the first part of them ends the scalar with so many bytes, if it does
abbrev pub rows_to : ℕ → Bool → List ℕ → Option ℕ → List (List ℕ) → Option (List Line) → Option (List Line)
rows_to quote first text (Some len) ls more = if are_skipped ls then onto (last_row quote text len) (Some []) else None
rows_to quote first text None ls more = onto (inner_row quote first text) more

-- what the lines of a quoted scalar say, of which the first begins with the quote
abbrev pub rows : ℕ → Bool → List (List ℕ) → Option (List Line)
rows quote first [] = None
rows quote first (l ∷ ls) = rows_to quote first (part first l) (quoted_at (inside quote) (part first l)) ls (rows quote false ls)

-- what a quoted scalar says that stands on these lines, but for blank lines and comments below it
abbrev pub quoted : ℕ → List (List ℕ) → Option (List ℕ)
quoted quote lines = option_map folded (rows quote true lines)
