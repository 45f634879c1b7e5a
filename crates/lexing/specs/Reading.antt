-- Characters read lexeme after lexeme, with a state: the state says which rules hold, and each lexeme gives tokens.
use Rattle.std.specs.Prelude.{◌≡◌, ℕ, Bool, true, false, List, [], ◌∷◌, ◌++◌, encode_utf8_all, Option, Some}
use Rattle.lexing.specs.Rules.{Rule}
use Rattle.lexing.specs.Conditions.{BeginsWithSuch}

-- a word and its spelling, in characters
pub record Lexeme : Type 0 where
  pub word : ℕ
  pub text : List ℕ

-- the state after a lexeme, and the tokens that it gives
pub record Turn (S T : Type 0) : Type 0 where
  pub after : S
  pub tokens : List T

-- the rules in a state, what a spelling has to meet besides, what a lexeme gives, whether reading ends before these characters, and what the end gives
pub record Reader (S T : Type 0) : Type 1 where
  pub rules : S → List Rule
  pub such : S → ℕ → List ℕ → Type 0
  pub step : S → ℕ → List ℕ → Turn S T → Type 0
  pub ends : S → List ℕ → Bool
  pub finish : S → List T → Type 0

-- the characters are these lexemes, each the longest at its place, and the rest; and the lexemes give these tokens
abbrev pub Reads : {S T : Type 0} → Reader S T → S → List ℕ → List Lexeme → List T → List ℕ → Type 0
Reads R s cs [] ts rest = (R.ends s cs ≡ true) × (rest ≡ cs) × R.finish s ts
Reads {S = S} {T = T} R s cs (x ∷ xs) ts rest =
    (R.ends s cs ≡ false) × (left : List ℕ) × (turn : Turn S T) × (later : List T) × BeginsWithSuch (R.such s) (R.rules s) cs x.word x.text left × R.step s x.word x.text turn × Reads R turn.after left xs later rest × (ts ≡ turn.tokens ++ later)

-- the characters from a state on have these tokens, up to the rest
abbrev pub HasTokens : {S T : Type 0} → Reader S T → S → List ℕ → List T → List ℕ → Type 0
HasTokens R s cs ts rest = (xs : List Lexeme) × Reads R s cs xs ts rest

-- ---- languages that are read to the end of a text, with no condition on a spelling

abbrev pub is_end : List ℕ → Bool
is_end [] = true
is_end (c ∷ cs) = false

-- the rules in a state, what a word and its bytes give, and what the end gives
pub record Language (S T : Type 0) : Type 0 where
  pub rules : S → List Rule
  pub step : S → ℕ → List ℕ → Option (Turn S T)
  pub finish : S → Option (List T)

abbrev pub reader : {S T : Type 0} → Language S T → Reader S T
reader L = record { rules = L.rules; such = λ s w cs. Unit {0}; step = λ s w cs turn. L.step s w (encode_utf8_all cs) ≡ Some turn; ends = λ s. is_end; finish = λ s ts. L.finish s ≡ Some ts }

-- the characters from a state on have these tokens
abbrev pub Lexes : {S T : Type 0} → Language S T → S → List ℕ → List T → Type 0
Lexes L s cs ts = HasTokens (reader L) s cs ts []
