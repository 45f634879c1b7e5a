-- Tokens that lie in a text, one behind the other, and the parts of f-strings in them.
use Rattle.std.specs.Prelude.{ℕ, zero, suc, ◌≤◌, List, [], ◌∷◌, length}
use Rattle.node_tree.specs.Span.{LiesIn}
use Rattle.py_lex.specs.declared.token.PyToken.{PyToken, out-PyToken}
use Rattle.py_lex.specs.declared.token.FPart.{FPart, out-FPart}
use Rattle.py_lex.specs.declared.token.FPart.TheOpen.{Plain, Field}

-- between two places of the text lie
abbrev pub Lies : Type 0 → Type 1
Lies X = ℕ → List X → ℕ → Type 0

-- the tokens, in order; I says it of their parts
abbrev pub TokensLie : Lies FPart → List ℕ → Lies PyToken
TokensLie I text from [] to = from ≤ to
TokensLie I text from (t ∷ ts) to = (from ≤ (out-PyToken t).span.from) × LiesIn text (out-PyToken t).span × I (out-PyToken t).span.from (out-PyToken t).parts (out-PyToken t).span.to × TokensLie I text (out-PyToken t).span.to ts to

-- the parts, in order; T says it of the tokens of a field, I of the parts of its format
abbrev pub PartsLie : Lies PyToken → Lies FPart → List ℕ → Lies FPart
PartsLie T I text from [] to = from ≤ to
PartsLie T I text from (p ∷ ps) to = elim (out-FPart p) [
  | Plain written span ↦ (from ≤ span.from) × LiesIn text span × PartsLie T I text span.to ps to
  | Field ts conversion format span ↦ (from ≤ span.from) × LiesIn text span × T span.from ts span.to × I span.from format span.to × PartsLie T I text span.to ps to
]

-- the parts of f-strings, so many within one another
abbrev pub InsideLies : ℕ → List ℕ → Lies FPart
InsideLies zero text from ps to = Unit {0}
InsideLies (suc levels) text from ps to = PartsLie (TokensLie (InsideLies levels text) text) (InsideLies levels text) text from ps to

-- The tokens lie in the text, in order, and so do all that stand in their f-strings.
abbrev pub AreTokensIn : List ℕ → List PyToken → Type 0
AreTokensIn text ts = (levels : ℕ) → TokensLie (InsideLies levels text) text 0 ts (length text)
