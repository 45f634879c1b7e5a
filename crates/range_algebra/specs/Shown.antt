-- What choices show.
use Rattle.std.specs.Prelude.{ℕ, List}
use Rattle.tree_match.specs.declared.leaf.Leaf.{Leaf}
use Rattle.tree_match.specs.Members.{Member}
use Rattle.sorted_sets.specs.Sizes.{Any}
use Rattle.range_algebra.specs.Trees.{Branches}
use Rattle.range_algebra.specs.Meets.{Allowed, IsShown}

module _ (leaves : List Leaf) (texts : List (List ℕ)) (bytes : List ℕ) where
  -- all the children allow the choice, and the member is shown of it
  abbrev pub Shows : Branches → Member → Member → Type 0
  Shows bs c m = Allowed leaves texts bytes bs c × IsShown bs c m

  -- one of these choices shows the member
  abbrev pub IsShownOfSome : Branches → List Member → Member → Type 0
  IsShownOfSome bs chosen m = Any (λ (c : Member). Shows bs c m) chosen
