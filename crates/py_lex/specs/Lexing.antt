-- The tokens of a text in Python.
use Rattle.std.specs.Prelude.{◌≡◌, ℕ, List, [], length, Result, Ok, Err}
use Rattle.std.specs.Str.{chars}
use Rattle.node_tree.specs.declared.view.Mode.{Mode}
use Rattle.node_tree.specs.declared.fault.LexFault.{LexFault}
use Rattle.node_tree.specs.declared.fault.LexFault.TheVariants.{Memory, NoTokens}
use Rattle.lexing.specs.Mark.{past_mark, mark_len}
use Rattle.lexing.specs.Reading.{HasTokens}
use Rattle.py_lex.specs.Tokens.{rules}
use Rattle.py_lex.specs.Layout.{begins_at, step, finish}
use Rattle.py_lex.specs.Parts.{PartedLanguage, parted, HasParts}
use Rattle.py_lex.specs.declared.class.Forms.TheVariants.{Both}
use Rattle.py_lex.specs.declared.token.PyToken.{PyToken}
use Rattle.py_lex.specs.declared.layout.Layout.{Layout}

abbrev pub py_language : Mode → PartedLanguage Layout PyToken
py_language mode = record { rules = λ s. rules mode Both; at = λ s. s.at; step = step; finish = finish }

-- reading begins behind a byte order mark, at the start of the first line
abbrev pub first_line : List ℕ → Layout
first_line cs = begins_at (mark_len cs)

-- the tokens of a text; no f-string of it has more f-strings within one another than the text has bytes
abbrev pub IsTokensOf : Mode → List ℕ → List PyToken → Type 0
IsTokensOf mode text ts = HasTokens (parted (HasParts (length text) mode) (py_language mode)) (first_line (chars text)) (past_mark (chars text)) ts []

-- ---- what functions give

-- no list but this one
abbrev pub Gives : {T : Type 0} → List T → Result (List T) LexFault → Type 0
Gives ts (Ok l) = l ≡ ts
Gives ts (Err Memory) = Unit {0}
Gives ts (Err NoTokens) = ⊥
