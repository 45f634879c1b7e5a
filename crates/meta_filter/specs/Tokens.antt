-- The tokens of comparisons and the blanks between them, as regular expressions.
use Rattle.std.specs.Prelude.{List, [], ◌∷◌, codes}
use Rattle.lexing.specs.Rules.{To, digits, capitals, small_letters, underscore, Expression, OneOf, Then, Many, the, exactly, some, Rule}
use Rattle.meta_filter.specs.declared.token.Word.{Word}
use Rattle.meta_filter.specs.declared.token.Word.TheVariants as words
use Rattle.meta_filter.specs.Words.{number_of}

-- space, tab, LF and CR
abbrev pub blank : Expression
blank = some (OneOf (To 9 10 ∷ To 13 13 ∷ To 32 32 ∷ []))

-- `$`, then a capital letter or `_`, then capital letters, digits and `_`
abbrev pub meta : Expression
meta = Then (the 36) (Then (OneOf (capitals ∷ underscore ∷ [])) (Many (OneOf (digits ∷ capitals ∷ underscore ∷ []))))

-- a letter or `_`, then letters, digits and `_`
abbrev pub letters : Expression
letters = Then (OneOf (capitals ∷ underscore ∷ small_letters ∷ [])) (Many (OneOf (digits ∷ capitals ∷ underscore ∷ small_letters ∷ [])))

abbrev pub rule : Word → Expression → Rule
rule w e = record { word = number_of w; spelled = e }

abbrev pub rules : List Rule
rules =
    rule words.Digits (some (OneOf (digits ∷ []))) ∷ rule words.Meta meta ∷ rule words.Stray letters ∷ record { word = 0; spelled = blank }
    ∷ rule words.Less (exactly (codes "<")) ∷ rule words.LessEqual (exactly (codes "<=")) ∷ rule words.Greater (exactly (codes ">")) ∷ rule words.GreaterEqual (exactly (codes ">=")) ∷ rule words.Equal (exactly (codes "==")) ∷ rule words.NotEqual (exactly (codes "!="))
    ∷ rule words.Plus (exactly (codes "+")) ∷ rule words.Minus (exactly (codes "-")) ∷ rule words.Times (exactly (codes "*")) ∷ rule words.Divide (exactly (codes "//")) ∷ rule words.Remainder (exactly (codes "%")) ∷ rule words.LeftRound (exactly (codes "(")) ∷ rule words.RightRound (exactly (codes ")")) ∷ []
