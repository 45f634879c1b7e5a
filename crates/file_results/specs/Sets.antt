-- Lists of whole sets.
use Rattle.std.specs.Prelude.{◌↔◌, ◌<◌, ℕ, List, length}
use Rattle.std.specs.declared.cmp.Ordering.{Ordering}
use Rattle.node_match.specs.Sets.{Among}
use Rattle.tree_match.specs.Ascending.{IsAscending}

-- the items of the set, all of them, in order and each once
pub record IsExactly {X : Type 0} (R : X → X → Ordering) (Set : X → Type 0) (items : List X) : Type 0 where
  pub exact : (x : X) → Among items x ↔ Set x
  pub ordered : IsAscending R items

-- the set has more items than that: here are some, in order and each once
pub record HasMore {X : Type 0} (R : X → X → Ordering) (Set : X → Type 0) (many : ℕ) : Type 0 where
  pub some : List X
  pub members : (x : X) → Among some x → Set x
  pub ordered : IsAscending R some
  pub more : many < length some
