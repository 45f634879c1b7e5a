-- The comments of a text in Python: they stand between its tokens, so none is in a string, and none in a field of an f-string.
use Rattle.std.specs.Prelude.{◌≡◌, ℕ, ◌+◌, ◌≤◌, List, [], ◌∷◌, ◌++◌, length, encode_utf8_all}
use Rattle.std.specs.Str.{chars}
use Rattle.node_tree.specs.Span.{LiesIn}
use Rattle.node_tree.specs.declared.span.Span.{Span}
use Rattle.node_tree.specs.declared.view.Mode.TheVariants.{Text}
use Rattle.lexing.specs.Mark.{past_mark, mark_len}
use Rattle.lexing.specs.Reading.{Lexeme, Turn, Reads}
use Rattle.py_lex.specs.Classes.{class_of}
use Rattle.py_lex.specs.Inside.{span}
use Rattle.py_lex.specs.Parts.{parted, HasParts}
use Rattle.py_lex.specs.Lexing.{py_language, first_line}
use Rattle.py_lex.specs.declared.class.Class.{Class}
use Rattle.py_lex.specs.declared.class.Class.TheVariants.{Comment}
use Rattle.py_lex.specs.declared.layout.Layout.{Layout}
use Rattle.py_lex.specs.declared.token.PyToken.{PyToken}

-- the spans of comments: that of a lexeme at a place with so many bytes, if it is one
abbrev pub noted : Class → ℕ → ℕ → List Span
noted Comment at n = span at (at + n) ∷ []
noted _ at n = []

abbrev pub bytes_of : Lexeme → ℕ
bytes_of x = length (encode_utf8_all x.text)

-- the comments among lexemes that stand one behind the other from a place on
abbrev pub comments_among : ℕ → List Lexeme → List Span
comments_among at [] = []
comments_among at (x ∷ xs) = noted (class_of x.word) at (bytes_of x) ++ comments_among (at + bytes_of x) xs

-- a turn of reading, with what is noted of its lexeme in place of its tokens
abbrev pub noting : Class → ℕ → ℕ → Turn Layout PyToken → Turn Layout Span
noting class at n t = record { after = t.after; tokens = noted class at n }

-- the text is these lexemes, tokens and what stands between them, and these are the comments among them
abbrev pub AreCommentsOf : List ℕ → List Span → Type 0
AreCommentsOf text spans =
    (xs : List Lexeme) × (ts : List PyToken) × Reads (parted (HasParts (length text) Text) (py_language Text)) (first_line (chars text)) (past_mark (chars text)) xs ts [] × (spans ≡ comments_among (mark_len (chars text)) xs)

-- between two places of the text lie the spans, in order
abbrev pub SpansLie : List ℕ → ℕ → List Span → ℕ → Type 0
SpansLie text from [] to = from ≤ to
SpansLie text from (s ∷ ss) to = (from ≤ s.from) × LiesIn text s × SpansLie text s.to ss to
