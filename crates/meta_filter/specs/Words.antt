-- The words that tokens are classed by.
use Rattle.std.specs.Prelude.{ℕ, ◌==◌, if◌then◌else◌, List, Option, Some, None, codes}
use Rattle.std.specs.Str.{bytes_eq}
use Rattle.meta_filter.specs.declared.token.Word.{Word}
use Rattle.meta_filter.specs.declared.token.Word.TheVariants.{End, Digits, Meta, Or, And, Not, Int, Stray, Less, LessEqual, Greater, GreaterEqual, Equal, NotEqual, Plus, Minus, Times, Divide, Remainder, LeftRound, RightRound}

-- the number of a word; among lexemes 0 stands for blanks, among tokens for what is behind the last one
abbrev pub number_of : Word → ℕ
number_of End = 0
number_of Digits = 1
number_of Meta = 2
number_of Or = 3
number_of And = 4
number_of Not = 5
number_of Int = 6
number_of Stray = 7
number_of Less = 8
number_of LessEqual = 9
number_of Greater = 10
number_of GreaterEqual = 11
number_of Equal = 12
number_of NotEqual = 13
number_of Plus = 14
number_of Minus = 15
number_of Times = 16
number_of Divide = 17
number_of Remainder = 18
number_of LeftRound = 19
number_of RightRound = 20

-- the class of a word in the grammar
unfoldable pub class : Word → ℕ
class w = number_of w

-- what a run of letters is
abbrev pub letters_word : List ℕ → Word
letters_word text = if bytes_eq text (codes "or") then Or else (if bytes_eq text (codes "and") then And else (if bytes_eq text (codes "not") then Not else (if bytes_eq text (codes "int") then Int else Stray)))

-- the word of a lexeme of this number; all runs of letters have the number of `Stray`, and their texts tell them apart
abbrev pub word_of : ℕ → List ℕ → Option Word
word_of n text =
    if n == 1 then Some Digits else (if n == 2 then Some Meta else (if n == 7 then Some (letters_word text) else (if n == 8 then Some Less else (if n == 9 then Some LessEqual
    else (if n == 10 then Some Greater else (if n == 11 then Some GreaterEqual else (if n == 12 then Some Equal else (if n == 13 then Some NotEqual else (if n == 14 then Some Plus
    else (if n == 15 then Some Minus else (if n == 16 then Some Times else (if n == 17 then Some Divide else (if n == 18 then Some Remainder else (if n == 19 then Some LeftRound
    else (if n == 20 then Some RightRound else None)))))))))))))))
