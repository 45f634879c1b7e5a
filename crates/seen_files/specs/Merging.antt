-- Two lists in order, made one.
use Rattle.std.specs.Prelude.{◌≡◌, ◌⊎◌, ◌↔◌, List, [], ◌∷◌}
use Rattle.std.specs.declared.cmp.Ordering.{Ordering}
use Rattle.std.specs.declared.cmp.Ordering.TheVariants.{Equal, Greater}
use Rattle.node_match.specs.Sets.{Among}
use Rattle.tree_match.specs.Ascending.{IsAscending}

-- the item doesn't come after the first of these
abbrev pub ComesFirst : {X : Type 0} → (X → X → Ordering) → X → List X → Type 0
ComesFirst R x [] = Unit {0}
ComesFirst R x (y ∷ ys) = R x y ≡ Greater → ⊥

-- the first of these comes after the item
abbrev pub IsAfter : {X : Type 0} → (X → X → Ordering) → X → List X → Type 0
IsAfter R y [] = Unit {0}
IsAfter R y (x ∷ xs) = R x y ≡ Greater

-- the list has the items of both, always that of the two first ones which comes first
pub data Merges {X : Type 0} (R : X → X → Ordering) : List X → List X → List X → Type 0 where
  at_ends : Merges R [] [] []
  of_first : {x : X} {xs ys zs : List X} → ComesFirst R x ys → Merges R xs ys zs → Merges R (x ∷ xs) ys (x ∷ zs)
  of_second : {y : X} {xs ys zs : List X} → IsAfter R y xs → Merges R xs ys zs → Merges R xs (y ∷ ys) (y ∷ zs)

-- both lists are in order, and no item of the one ties with one of the other
pub record AreMergeable {X : Type 0} (R : X → X → Ordering) (xs ys : List X) : Type 0 where
  pub first : IsAscending R xs
  pub second : IsAscending R ys
  pub untied : (x y : X) → Among xs x → Among ys y → R x y ≡ Equal → ⊥

-- the items of both, in order
pub record AreMerged {X : Type 0} (R : X → X → Ordering) (xs ys zs : List X) : Type 0 where
  pub ordered : IsAscending R zs
  pub exact : (z : X) → Among zs z ↔ (Among xs z ⊎ Among ys z)
