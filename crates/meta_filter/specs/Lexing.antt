-- The tokens of a text.
use Rattle.std.specs.Prelude.{◌≡◌, ℕ, List, [], ◌∷◌, ◌++◌, Option, Some, None, Result, Ok, Err}
use Rattle.std.specs.Str.{chars}
use Rattle.lexing.specs.Reading.{Language, Lexes}
use Rattle.meta_filter.specs.declared.fault.CompareFault.{CompareFault}
use Rattle.meta_filter.specs.declared.fault.CompareFault.TheVariants.{Memory, NoComparison}
use Rattle.meta_filter.specs.declared.token.Word.{Word}
use Rattle.meta_filter.specs.declared.token.Token.{Token}
use Rattle.meta_filter.specs.Words.{word_of}
use Rattle.meta_filter.specs.Tokens.{rules}

-- a lexeme gives one token, and blanks give none
abbrev pub given : List ℕ → Option Word → List Token
given text None = []
given text (Some word) = record { word = word; text = text } ∷ []

abbrev pub language : Language (Unit {0}) Token
language = record {
  rules = λ s. rules;
  step = λ s number text. Some (record { after = tt; tokens = given text (word_of number text) });
  finish = λ s. Some [];
}

-- these are the tokens of the text
abbrev pub IsTokensOf : List ℕ → List Token → Type 0
IsTokensOf text ts = Lexes language tt (chars text) ts

-- the tokens were pushed, unless memory ran out
abbrev pub Pushes : List Token → List Token → List Token → Result (Unit {0}) CompareFault → Type 0
Pushes ts old new (Ok l) = new ≡ old ++ ts
Pushes ts old new (Err Memory) = Unit {0}
Pushes ts old new (Err NoComparison) = ⊥
