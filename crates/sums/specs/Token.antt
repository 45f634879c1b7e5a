-- The tokens of the example, and their classes.
use Rattle.std.specs.Prelude.{ℕ, ◌-◌, List, get_or}
use Rattle.sums.specs.declared.token.Word.{Word}
use Rattle.sums.specs.declared.token.Word.TheVariants.{End, Name, Number, OpenRound, CloseRound, Comma, Equal, Plus, Minus, Times, Semicolon, Hole}
use Rattle.sums.specs.declared.token.Token.{Token}

-- the class of a word
unfoldable pub class : Word → ℕ
class End = 0
class Name = 1
class Number = 2
class OpenRound = 3
class CloseRound = 4
class Comma = 5
class Equal = 6
class Plus = 7
class Minus = 8
class Times = 9
class Semicolon = 10
class Hole = 11

abbrev pub end_token : Token
end_token = record { word = End; text = 0; from = 0; to = 0 }

-- the token that stands there, or the end
abbrev pub token_at : List Token → ℕ → Token
token_at ts i = get_or ts i end_token

-- where the piece that ends before this token ends
abbrev pub end_of : List Token → ℕ → ℕ
end_of ts j = (token_at ts (j - 1)).to
