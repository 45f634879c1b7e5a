-- The comments of a text in C (C11 6.4.9): of the parts between its tokens, those that are comments.
use Rattle.std.specs.Prelude.{◌≡◌, ℕ, ◌+◌, Bool, true, false, List, [], ◌∷◌, ◌++◌, length, encode_utf8_all, Option, Some, None}
use Rattle.std.specs.Str.{chars}
use Rattle.node_tree.specs.declared.span.Span.{Span}
use Rattle.node_tree.specs.declared.view.Mode.TheVariants.{Text}
use Rattle.lexing.specs.Mark.{past_mark, mark_len}
use Rattle.lexing.specs.Reading.{Lexeme, Turn, Language, reader, Reads}
use Rattle.c_lex.specs.declared.progress.Class.{Class}
use Rattle.c_lex.specs.declared.progress.Class.TheVariants.{Comment, LongComment}
use Rattle.c_lex.specs.declared.progress.Progress.{Progress}
use Rattle.c_lex.specs.declared.token.CToken.{CToken}
use Rattle.c_lex.specs.Classes.{class_of}
use Rattle.c_lex.specs.Tokens.{rules}
use Rattle.c_lex.specs.Lexing.{c_language, first, step}

abbrev pub is_comment : Class → Bool
is_comment Comment = true
is_comment LongComment = true
is_comment _ = false

-- the bytes of a part of so many bytes, where it is a comment
abbrev pub span_if : Bool → ℕ → ℕ → List Span
span_if true at len = record { from = at; to = at + len } ∷ []
span_if false at len = []

-- of tokens and parts between them, the first of which begins at a byte, those that are comments, in order
abbrev pub comments_among : ℕ → List Lexeme → List Span
comments_among at [] = []
comments_among at (x ∷ xs) = span_if (is_comment (class_of x.word)) at (length (encode_utf8_all x.text)) ++ comments_among (at + length (encode_utf8_all x.text)) xs

-- The text is these tokens and parts between them, each the longest at its place, and these are the comments among the parts.
pub record AreCommentsOf (text : List ℕ) (comments : List Span) : Type 0 where
  pub tokens : List CToken
  pub lexemes : List Lexeme
  pub reads : Reads (reader (c_language Text)) (first (chars text)) (past_mark (chars text)) lexemes tokens []
  pub among : comments ≡ comments_among (mark_len (chars text)) lexemes

-- ---- the comments as what lexemes give

-- what a lexeme gives that turns so with its tokens: itself, where it is a comment
abbrev pub noted : Progress → ℕ → List ℕ → Option (Turn Progress CToken) → Option (Turn Progress Span)
noted p number text None = None
noted p number text (Some turn) = Some (record { after = turn.after; tokens = span_if (is_comment (class_of number)) p.at (length text) })

abbrev pub note : Progress → ℕ → List ℕ → Option (Turn Progress Span)
note p number text = noted p number text (step p number text)

abbrev pub comment_language : Language Progress Span
comment_language = record { rules = λ p. rules Text p.fresh; step = note; finish = λ p. Some [] }
