-- The longest spelling that meets a condition, for words whose spellings an automaton cannot tell alone.
use Rattle.std.specs.Prelude.{◌≡◌, ℕ, ◌≤◌, ◌==◌, if◌then◌else◌, List, [], ◌∷◌, ◌++◌, length}
use Rattle.lexing.specs.Rules.{Rule, Spells}

-- the text begins with a spelling that meets the condition, and with no longer one that does
pub record BeginsWithSuch (V : ℕ → List ℕ → Type 0) (rules : List Rule) (text : List ℕ) (w : ℕ) (front rest : List ℕ) : Type 0 where
  pub parts : text ≡ front ++ rest
  pub spells : Spells rules w front
  pub such : V w front
  pub longest : (v : ℕ) (longer after : List ℕ) → Spells rules v longer → V v longer → text ≡ longer ++ after → length longer ≤ length front

-- the text begins with no spelling that meets the condition
abbrev pub BeginsWithNoneSuch : (ℕ → List ℕ → Type 0) → List Rule → List ℕ → Type 0
BeginsWithNoneSuch V rules text = (v : ℕ) (front rest : List ℕ) → Spells rules v front → V v front → text ≡ front ++ rest → ⊥

-- the rules of the other words
abbrev pub without : ℕ → List Rule → List Rule
without w [] = []
without w (r ∷ rs) = if r.word == w then without w rs else r ∷ without w rs

-- no spelling of the word begins another
abbrev pub IsPrefixFree : List Rule → ℕ → Type 0
IsPrefixFree rules w = (f x : List ℕ) → Spells rules w f → Spells rules w (f ++ x) → x ≡ []
