-- The union of some leaves.
use Rattle.std.specs.Prelude.{◌⊎◌, ◌≤◌, List, [], ◌∷◌, length}
use Rattle.piece_match.specs.declared.unite.PlacedLeaf.{PlacedLeaf}
use Rattle.tree_match.specs.declared.leaf.Leaf.{Leaf}
use Rattle.tree_match.specs.declared.leaf.Leaf.TheVariants.{Full, Crowded}
use Rattle.node_match.specs.Sets.{Among}
use Rattle.tree_match.specs.Members.{Member}
use Rattle.tree_match.specs.Leaf.{IsWhole, HasMore, IsLeaf}
use Rattle.piece_match.specs.Moved.{moved_leaf}

-- a member of one of the leaves that are not crowded
abbrev pub InSome : List Leaf → Member → Type 0
InSome parts m = (members : List Member) × Among parts (Full members) × Among members m

-- crowded where a leaf is, or there are more than 10,000 members; else all of them
abbrev pub IsUnion : List Leaf → Leaf → Type 0
IsUnion parts (Full members) = (Among parts Crowded → ⊥) × IsWhole (InSome parts) members × (length members ≤ 10000)
IsUnion parts Crowded = Among parts Crowded ⊎ HasMore (InSome parts) 10000

-- a member of one of the sets
abbrev pub InAny : {K : Type 0} → (K → Member → Type 0) → List K → Member → Type 0
InAny {K} Set ks m = (k : K) × Among ks k × Set k m

-- each leaf is that of the set at its place
abbrev pub AreLeaves : {K : Type 0} → (K → Member → Type 0) → List K → List Leaf → Type 0
AreLeaves Set [] [] = Unit {0}
AreLeaves Set [] (leaf ∷ leaves) = ⊥
AreLeaves Set (k ∷ ks) [] = ⊥
AreLeaves Set (k ∷ ks) (leaf ∷ leaves) = IsLeaf (Set k) leaf × AreLeaves Set ks leaves

-- a leaf, as much later as its piece starts
abbrev pub moved_part : PlacedLeaf → Leaf
moved_part p = moved_leaf p.start p.leaf.now
