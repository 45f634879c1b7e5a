-- Lines and their columns: Newline, Indent and Dedent among the tokens of a text in Python.
use Rattle.std.specs.Prelude.{◌≡◌, ℕ, ◌+◌, ◌-◌, ◌*◌, ◌/◌, ◌≤◌, Bool, true, false, ◌==◌, nat_lt, if◌then◌else◌, List, [], ◌∷◌, ◌++◌, length, Option, Some, None, option_map, Result, Ok, Err}
use Rattle.node_tree.specs.declared.fault.LexFault.{LexFault}
use Rattle.node_tree.specs.declared.fault.LexFault.TheVariants.{Memory, NoTokens}
use Rattle.lexing.specs.Reading.{Turn}
use Rattle.py_lex.specs.Keywords.{is_keyword}
use Rattle.py_lex.specs.Classes.{class_of}
use Rattle.py_lex.specs.Columns.{top}
use Rattle.py_lex.specs.declared.class.Class.{Class}
use Rattle.py_lex.specs.declared.class.Class.TheVariants.{FShort, FLong, Name, Number, Str, Mark, Opening, Closing, Meta, MetaDots, Blank, LineEnd, Splice}
use Rattle.py_lex.specs.declared.token.PyWord.{PyWord}
use Rattle.py_lex.specs.declared.token.PyWord.TheVariants as words
use Rattle.py_lex.specs.declared.token.PyToken.{PyToken, roll-PyToken}
use Rattle.py_lex.specs.declared.token.FPart.{FPart}
use Rattle.py_lex.specs.declared.layout.Line.{Line}
use Rattle.py_lex.specs.declared.layout.Line.TheVariants.{Start, Fixed, Inside}
use Rattle.py_lex.specs.declared.layout.Layout.{Layout}

-- ---- tokens

abbrev pub name_word : Bool → PyWord
name_word true = words.Keyword
name_word false = words.Name

-- the word of a token, or none for what stands between tokens
abbrev pub word_of : Class → List ℕ → Option PyWord
word_of Name text = Some (name_word (is_keyword text))
word_of Number text = Some words.Number
word_of Str text = Some words.Str
word_of FShort text = Some words.FStr
word_of FLong text = Some words.FStr
word_of Mark text = Some words.Op
word_of Opening text = Some words.Op
word_of Closing text = Some words.Op
word_of Meta text = Some words.Meta
word_of MetaDots text = Some words.MetaDots
word_of _ text = None

-- the end of a line, of a block or of the text, or the start of a block: a token without text
abbrev pub sign : PyWord → ℕ → ℕ → PyToken
sign w from len = roll-PyToken (record { word = w; text = []; span = record { from = from; to = from + len }; parts = [] })

-- a token that is written, with the parts of an f-string
abbrev pub written : PyWord → List ℕ → ℕ → List FPart → PyToken
written w text from xs = roll-PyToken (record { word = w; text = text; span = record { from = from; to = from + length text }; parts = xs })

-- ---- columns of open blocks, the innermost first; below them is column 0

abbrev pub joined : {S : Type 0} → List PyToken → Option (Turn S PyToken) → Option (Turn S PyToken)
joined ts None = None
joined ts (Some t) = Some (record { after = t.after; tokens = ts ++ t.tokens })

-- a line at a column that is not deeper: one Dedent for each deeper block, and then the column is that of a block
unfoldable pub close : ℕ → List ℕ → ℕ → Option (Turn (List ℕ) PyToken)
close at [] column = if column == 0 then Some (record { after = []; tokens = [] }) else None
close at (c ∷ cs) column =
    if nat_lt column c then joined (sign words.Dedent at 0 ∷ []) (close at cs column) else (if column == c then Some (record { after = c ∷ cs; tokens = [] }) else None)

abbrev pub open_line : ℕ → List ℕ → ℕ → Option (Turn (List ℕ) PyToken)
open_line at cs column = if nat_lt (top cs) column then Some (record { after = column ∷ cs; tokens = sign words.Indent at 0 ∷ [] }) else close at cs column

-- the column after blanks: a space adds one, a tab goes to the next multiple of 8, a form feed sets zero
abbrev pub column_after : ℕ → List ℕ → ℕ
column_after column [] = column
column_after column (b ∷ bs) = column_after (if b == 9 then (column / 8 + 1) * 8 else (if b == 12 then 0 else column + 1)) bs

-- ---- steps

-- reading begins at a place, at the start of the first line
abbrev pub begins_at : ℕ → Layout
begins_at at = record { at = at; columns = []; depth = 0; column = 0; line = Start; first = true }

-- the first token of a line opens or closes blocks; the first line has column 0
abbrev pub begun : Layout → Turn (List ℕ) PyToken → Turn Layout PyToken
begun s t = record { after = record s { columns = t.after; line = Inside; first = false }; tokens = t.tokens }

abbrev pub begin_by : Line → Layout → Option (Turn Layout PyToken)
begin_by Inside s = Some (record { after = s; tokens = [] })
begin_by Start s = option_map (begun s) (open_line s.at s.columns (if s.first then 0 else s.column))
begin_by Fixed s = option_map (begun s) (open_line s.at s.columns (if s.first then 0 else s.column))

abbrev pub begin : Layout → Option (Turn Layout PyToken)
begin s = begin_by s.line s

-- brackets that are open after a token
abbrev pub depth_after : Class → ℕ → ℕ
depth_after Opening depth = depth + 1
depth_after Closing depth = depth - 1
depth_after _ depth = depth

abbrev pub with_token : Class → PyWord → List ℕ → List FPart → Turn Layout PyToken → Turn Layout PyToken
with_token class word text xs t = record { after = record t.after { depth = depth_after class t.after.depth; at = t.after.at + length text }; tokens = t.tokens ++ written word text t.after.at xs ∷ [] }

unfoldable pub token_step : Layout → Class → PyWord → List ℕ → List FPart → Option (Turn Layout PyToken)
token_step s class word text xs = option_map (with_token class word text xs) (begin s)

abbrev pub quiet : Layout → Turn Layout PyToken
quiet s = record { after = s; tokens = [] }

abbrev pub moved : Layout → ℕ → Layout
moved s n = record s { at = s.at + n }

abbrev pub blank_by : Line → Layout → List ℕ → Layout
blank_by Start s text = record s { at = s.at + length text; column = column_after s.column text }
blank_by Fixed s text = moved s (length text)
blank_by Inside s text = moved s (length text)

abbrev pub fresh_line : Layout → ℕ → Layout
fresh_line s n = record s { at = s.at + n; line = Start; column = 0 }

-- a line end within brackets is nothing; after a token it is a Newline
abbrev pub end_by : Line → Layout → ℕ → Turn Layout PyToken
end_by Inside s n = if s.depth == 0 then record { after = fresh_line s n; tokens = sign words.Newline s.at n ∷ [] } else quiet (moved s n)
end_by Start s n = quiet (fresh_line s n)
end_by Fixed s n = quiet (fresh_line s n)

-- a backslash at the start of a line fixes its column
abbrev pub splice_by : Line → Layout → ℕ → Layout
splice_by Start s n = record s { at = s.at + n; line = Fixed }
splice_by Fixed s n = moved s n
splice_by Inside s n = moved s n

abbrev pub gap_step : Layout → Class → List ℕ → Turn Layout PyToken
gap_step s Blank text = quiet (blank_by s.line s text)
gap_step s LineEnd text = end_by s.line s (length text)
gap_step s Splice text = quiet (splice_by s.line s (length text))
gap_step s _ text = quiet (moved s (length text))

abbrev pub step_by : Option PyWord → Layout → Class → List ℕ → List FPart → Option (Turn Layout PyToken)
step_by (Some word) s class text xs = token_step s class word text xs
step_by None s class text xs = Some (gap_step s class text)

-- a lexeme of the class that has the number; an f-string comes with its parts
abbrev pub step : Layout → ℕ → List ℕ → List FPart → Option (Turn Layout PyToken)
step s number text xs = step_by (word_of (class_of number) text) s (class_of number) text xs

-- the last line ends too, and then each open block
abbrev pub last_newline : Line → ℕ → ℕ → List PyToken
last_newline Inside at depth = if depth == 0 then sign words.Newline at 0 ∷ [] else []
last_newline Start at depth = []
last_newline Fixed at depth = []

abbrev pub ending : Layout → Turn (List ℕ) PyToken → List PyToken
ending s t = last_newline s.line s.at s.depth ++ t.tokens ++ sign words.End s.at 0 ∷ []

abbrev pub finish : Layout → Option (List PyToken)
finish s = option_map (ending s) (close s.at s.columns 0)

-- ---- what functions give

-- tokens were pushed and the state is as the turn says
abbrev pub Turns : {S T : Type 0} → Option (Turn S T) → List T → List T → S → Result (Unit {0}) LexFault → Type 0
Turns {T = T} turn old new after (Ok l) = (ts : List T) × (turn ≡ Some (record { after = after; tokens = ts })) × (new ≡ old ++ ts)
Turns turn old new after (Err Memory) = Unit {0}
Turns turn old new after (Err NoTokens) = turn ≡ None

abbrev pub Ends : Option (List PyToken) → List PyToken → List PyToken → Result (Unit {0}) LexFault → Type 0
Ends last old new (Ok l) = (ts : List PyToken) × (last ≡ Some ts) × (new ≡ old ++ ts)
Ends last old new (Err Memory) = Unit {0}
Ends last old new (Err NoTokens) = last ≡ None

-- numbers that cannot run over
pub record IsBounded (s : Layout) : Type 0 where
  pub column : s.column ≤ 8 * s.at
  pub depth : s.depth ≤ s.at
