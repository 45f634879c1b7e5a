-- Plain scalars: YAML 1.2.2, 7.3.3.
use Rattle.std.specs.Prelude.{ℕ, List, [], ◌∷◌, ◌==◌, ◌||◌, ◌&&◌, if◌then◌else◌, Bool, true, false, Option, Some, None, ◌+◌, length, take}
use Rattle.std.specs.Option.{option_map, option_and_then}
use Rattle.std.specs.Str.{is_utf8}
use Rattle.yaml_lines.specs.Blanks.{is_blank, past_blanks, before_blanks, is_skipped}
use Rattle.yaml_lines.specs.Key.{negate, is_indicator}
use Rattle.yaml_lines.specs.Body.{past_gap}
use Rattle.yaml_lines.specs.Scan.{scan_line, at_place}
use Rattle.yaml_lines.specs.declared.scan.Place.TheVariants.{Inside}
use Rattle.yaml_lines.specs.declared.scan.Scanned.{Scanned}
use Rattle.yaml_cells.specs.declared.fold.Line.{Line}
use Rattle.yaml_cells.specs.declared.fold.Line.TheVariants.{Blank, Text}
use Rattle.yaml_cells.specs.Fold.{folded}

-- a sign stands alone before this rest of a line: before a blank or at the line's end. `closed` says that `,` or `]` of a flow sequence follows the rest
abbrev pub is_alone : Bool → List ℕ → Bool
is_alone closed [] = negate closed
is_alone closed (b ∷ bs) = is_blank b

-- a plain scalar begins with no indicator; `-`, `?` and `:` are indicators only where they stand alone
abbrev pub begins_word : Bool → List ℕ → Bool
begins_word closed [] = false
begins_word closed (b ∷ bs) = if (b == 45 || b == 63) || b == 58 then negate (is_alone closed bs) else negate (is_indicator b)

-- the byte is a `:` that stands alone before this rest
abbrev pub is_colon : Bool → ℕ → List ℕ → Bool
is_colon closed b rest = b == 58 && is_alone closed rest

-- a `:` stands alone somewhere
abbrev pub holds_colon : Bool → List ℕ → Bool
holds_colon closed [] = false
holds_colon closed (b ∷ bs) = if is_colon closed b bs then true else holds_colon closed bs

-- a text has these bytes. The bytes of a text are UTF-8
abbrev pub text_of : List ℕ → Option (List ℕ)
text_of bs = if is_utf8 bs then Some bs else None

-- the text has no byte
abbrev pub is_empty : {X : Type 0} → List X → Bool
is_empty [] = true
is_empty (x ∷ xs) = false

-- a line without the blanks round it
abbrev pub trimmed : List ℕ → List ℕ
trimmed line = before_blanks (past_blanks line)

-- what a line says that has this text between blanks
abbrev pub said : List ℕ → Option Line
said text = if is_empty text then Some Blank else option_map Text (text_of text)

-- what a line of a plain scalar says up to its comment, which only the last one may have
abbrev pub row_to : Scanned → Bool → Bool → List ℕ → Option Line
row_to s last closed line =
    if s.comment && negate last then None
    else (if holds_colon ((closed && last) && negate s.comment) (take s.len line) then None else said (trimmed (take s.len line)))

-- what a line of a plain scalar says
abbrev pub row : Bool → Bool → List ℕ → Option Line
row last closed line = row_to (scan_line (at_place Inside 0) line) last closed line

-- a line before others
abbrev pub onto : Option Line → Option (List Line) → Option (List Line)
onto l ls = option_and_then (λ x. option_map (λ xs. x ∷ xs) ls) l

-- what the lines of a plain scalar say
abbrev pub rows : Bool → List (List ℕ) → Option (List Line)
rows closed [] = Some []
rows closed (l ∷ ls) = onto (row (is_empty ls) closed l) (rows closed ls)

-- how many lines there are up to the last one that isn't blank and no comment
abbrev pub kept_len : List (List ℕ) → ℕ
kept_len [] = 0
kept_len (l ∷ ls) = if is_skipped l then past_gap (kept_len ls) else 1 + kept_len ls

-- what the lines of a plain scalar say, the last of which has text
abbrev pub word_of : Bool → List (List ℕ) → Option (List ℕ)
word_of closed [] = None
word_of closed (l ∷ ls) = if begins_word (closed && is_empty ls) (past_blanks l) then option_map folded (rows closed (l ∷ ls)) else None

-- what a plain scalar says that stands on these lines alone, but for blank lines and comments below it
abbrev pub word : Bool → List (List ℕ) → Option (List ℕ)
word closed [] = None
word closed (l ∷ ls) = word_of (closed && (kept_len ls == length ls)) (take (1 + kept_len ls) (l ∷ ls))
