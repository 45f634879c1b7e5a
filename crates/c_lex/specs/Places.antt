-- Tokens and comments that lie in a text.
use Rattle.std.specs.Prelude.{◌≡◌, ◌≤◌, ℕ, List, [], ◌∷◌, ◌++◌}
use Rattle.node_tree.specs.declared.span.Span.{Span}
use Rattle.node_tree.specs.Span.{LiesIn}
use Rattle.c_lex.specs.declared.token.CToken.{CToken}
use Rattle.c_lex.specs.declared.token.CWord.TheVariants.{End}

-- one behind the other, from a byte on
abbrev pub TokensLie : List ℕ → ℕ → List CToken → Type 0
TokensLie text from [] = Unit {0}
TokensLie text from (t ∷ ts) = (from ≤ t.span.from) × LiesIn text t.span × TokensLie text t.span.to ts

-- The tokens lie in the text, one behind the other, and the last of them is its end.
pub record AreTokensIn (text : List ℕ) (ts : List CToken) : Type 0 where
  pub lie : TokensLie text 0 ts
  pub front : List CToken
  pub last : CToken
  pub all : ts ≡ front ++ last ∷ []
  pub end : last.word ≡ End

-- the spans lie in the text, one behind the other, from a byte on
abbrev pub SpansLie : List ℕ → ℕ → List Span → Type 0
SpansLie text from [] = Unit {0}
SpansLie text from (s ∷ ss) = (from ≤ s.from) × LiesIn text s × SpansLie text s.to ss
