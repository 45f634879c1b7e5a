-- Questions to a search, one after the other.
use Rattle.std.specs.Prelude.{◌≡◌, ◌↔◌, ℕ, List, [], ◌∷◌}
use Rattle.node_tree.specs.declared.view.Pattern.{Pattern}
use Rattle.node_match.specs.Sets.{Among}

-- what a question for a pattern makes of a search and of the steps that were counted so far
abbrev pub Asks : Type 0 → Type 1
Asks S = Pattern → S → ℕ → S → ℕ → Type 0

-- the search was asked for these patterns, in this order
abbrev pub Asked : {S : Type 0} → Asks S → List Pattern → S → ℕ → S → ℕ → Type 0
Asked {S} asks [] old before new after = (new ≡ old) × (after ≡ before)
Asked {S} asks (p ∷ ps) old before new after = (next : S) × (steps : ℕ) × asks p old before next steps × Asked asks ps next steps new after

-- the search was asked for the patterns of the set, each at least once
pub record AsksFor {S : Type 0} (asks : Asks S) (Set : Pattern → Type 0) (old : S) (before : ℕ) (new : S) (after : ℕ) : Type 0 where
  pub patterns : List Pattern
  pub all : (p : Pattern) → Among patterns p ↔ Set p
  pub asked : Asked asks patterns old before new after
