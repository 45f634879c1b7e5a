-- How many members a set has.
use Rattle.std.specs.Prelude.{◌≤◌, ◌<◌, ℕ, List, [], ◌∷◌, length}
use Rattle.node_match.specs.Sets.{Among}

-- what holds of each of the items
abbrev pub Each : {X : Type 0} → (X → Type 0) → List X → Type 0
Each {X} P xs = (x : X) → Among xs x → P x

-- it holds of some item
abbrev pub Any : {X : Type 0} → (X → Type 0) → List X → Type 0
Any {X} P xs = (x : X) × Among xs x × P x

-- no item stands in the list twice
abbrev pub IsDistinct : {X : Type 0} → List X → Type 0
IsDistinct [] = Unit {0}
IsDistinct (x ∷ xs) = (Among xs x → ⊥) × IsDistinct xs

-- a list of that many items at most has all members of the set
pub record HasAtMost {X : Type 0} (most : ℕ) (Set : X → Type 0) : Type 0 where
  pub items : List X
  pub whole : (x : X) → Set x → Among items x
  pub few : length items ≤ most

-- the set has more members than that: here are some, each once
pub record HasMoreThan {X : Type 0} (most : ℕ) (Set : X → Type 0) : Type 0 where
  pub items : List X
  pub members : Each Set items
  pub distinct : IsDistinct items
  pub many : most < length items
