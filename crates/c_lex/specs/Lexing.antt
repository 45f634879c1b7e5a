-- The tokens of a text in C.
use Rattle.std.specs.Prelude.{◌≡◌, ℕ, ◌+◌, Bool, true, false, List, [], ◌∷◌, ◌++◌, length, Option, Some, None, Result, Ok, Err}
use Rattle.std.specs.Str.{chars}
use Rattle.node_tree.specs.declared.view.Mode.{Mode}
use Rattle.node_tree.specs.declared.fault.LexFault.{LexFault}
use Rattle.node_tree.specs.declared.fault.LexFault.TheVariants.{Memory, NoTokens}
use Rattle.lexing.specs.Mark.{past_mark, mark_len}
use Rattle.lexing.specs.Reading.{Turn, Language, Lexes}
use Rattle.c_lex.specs.declared.progress.Class.{Class}
use Rattle.c_lex.specs.declared.progress.Class.TheVariants.{Name, Number, Str, Char, Op, Meta, MetaDots, Directive, Blank, LineEnd, Comment, LongComment, OpenComment}
use Rattle.c_lex.specs.declared.progress.Progress.{Progress}
use Rattle.c_lex.specs.declared.token.CWord.{CWord}
use Rattle.c_lex.specs.declared.token.CWord.TheVariants as words
use Rattle.c_lex.specs.declared.token.CToken.{CToken}
use Rattle.c_lex.specs.Classes.{class_of}
use Rattle.c_lex.specs.Keywords.{is_keyword}
use Rattle.c_lex.specs.Tokens.{rules}

-- ---- what a lexeme does

abbrev pub name_word : Bool → CWord
name_word true = words.Keyword
name_word false = words.Name

-- the word of a token, or none for what stands between tokens
abbrev pub word_of : Class → List ℕ → Option CWord
word_of Name text = Some (name_word (is_keyword text))
word_of Number text = Some words.Number
word_of Str text = Some words.Str
word_of Char text = Some words.Char
word_of Op text = Some words.Op
word_of Meta text = Some words.Meta
word_of MetaDots text = Some words.MetaDots
word_of Directive text = Some words.Directive
word_of Blank text = None
word_of LineEnd text = None
word_of Comment text = None
word_of LongComment text = None
word_of OpenComment text = None

-- after a part between tokens, whether the line has had no token yet; a comment that does not end stands in no text
abbrev pub fresh_after : Class → Bool → Option Bool
fresh_after LineEnd fresh = Some true
fresh_after LongComment fresh = Some true
fresh_after OpenComment fresh = None
fresh_after _ fresh = Some fresh

abbrev pub token : CWord → ℕ → List ℕ → CToken
token word at text = record { word = word; text = text; span = record { from = at; to = at + length text } }

abbrev pub token_turn : Progress → List ℕ → CWord → Turn Progress CToken
token_turn p text word = record { after = record { at = p.at + length text; fresh = false }; tokens = token word p.at text ∷ [] }

abbrev pub gap_turn : Progress → List ℕ → Option Bool → Option (Turn Progress CToken)
gap_turn p text None = None
gap_turn p text (Some fresh) = Some (record { after = record { at = p.at + length text; fresh = fresh }; tokens = [] })

abbrev pub turn_by : Option CWord → Class → Progress → List ℕ → Option (Turn Progress CToken)
turn_by (Some word) class p text = Some (token_turn p text word)
turn_by None class p text = gap_turn p text (fresh_after class p.fresh)

abbrev pub step : Progress → ℕ → List ℕ → Option (Turn Progress CToken)
step p number text = turn_by (word_of (class_of number) text) (class_of number) p text

-- ---- the language

abbrev pub c_language : Mode → Language Progress CToken
c_language mode = record { rules = λ p. rules mode p.fresh; step = step; finish = λ p. Some (token words.End p.at [] ∷ []) }

-- reading begins behind a byte order mark, at the start of a line
abbrev pub first : List ℕ → Progress
first cs = record { at = mark_len cs; fresh = true }

-- these are the tokens of the text
abbrev pub IsTokensOf : Mode → List ℕ → List CToken → Type 0
IsTokensOf mode text ts = Lexes (c_language mode) (first (chars text)) (past_mark (chars text)) ts

-- ---- what functions give

-- the list was given, unless memory ran out
abbrev pub Gives : {T : Type 0} → List T → Result (List T) LexFault → Type 0
Gives ts (Ok l) = l ≡ ts
Gives ts (Err Memory) = Unit {0}
Gives ts (Err NoTokens) = ⊥

-- the token was pushed, unless memory ran out
abbrev pub Keeps : CToken → List CToken → List CToken → Result (Unit {0}) LexFault → Type 0
Keeps t old new (Ok l) = new ≡ old ++ t ∷ []
Keeps t old new (Err Memory) = Unit {0}
Keeps t old new (Err NoTokens) = ⊥

-- the turn's tokens were pushed and its state reached, unless memory ran out
abbrev pub Turns : {T : Type 0} → Option (Turn Progress T) → List T → List T → Progress → Result (Unit {0}) LexFault → Type 0
Turns {T = T} turn old new after (Ok l) = (ts : List T) × (turn ≡ Some (record { after = after; tokens = ts })) × (new ≡ old ++ ts)
Turns turn old new after (Err Memory) = Unit {0}
Turns turn old new after (Err NoTokens) = turn ≡ None
