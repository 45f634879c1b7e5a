-- Members of two sets, one at each place.
use Rattle.std.specs.Prelude.{◌≡◌, ◌⊎◌, List, Option, MatchOption}
use Rattle.std.specs.declared.cmp.Ordering.{Ordering}
use Rattle.std.specs.declared.cmp.Ordering.TheVariants.{Less, Equal}
use Rattle.std.specs.Ordering.{ordering_then}
use Rattle.std.specs.Cmp.Lexicographic.{slice_cmp}
use Rattle.node_tree.specs.Span.{span_cmp}
use Rattle.meta_bind.specs.Bounds.{place_cmp as bound_cmp}
use Rattle.node_match.specs.Sets.{Among}
use Rattle.tree_match.specs.declared.leaf.Leaf.{Leaf}
use Rattle.tree_match.specs.declared.leaf.Leaf.TheVariants.{Full, Crowded}
use Rattle.tree_match.specs.Leaf.{IsLeaf}
use Rattle.tree_match.specs.Members.{Member, member_cmp}

-- by range, then by the names with their spans
abbrev pub place_cmp : Member → Member → Ordering
place_cmp a b = ordering_then (span_cmp a.0 b.0) (slice_cmp bound_cmp a.1 b.1)

-- both have the same range, and the same names with the same spans
abbrev pub SamePlace : Member → Member → Type 0
SamePlace a b = place_cmp a b ≡ Equal

-- a further member at whose place no member of the set stands, and which is the least of the further ones there
pub record IsFirst (plain further : List Member) (m : Member) : Type 0 where
  pub among : Among further m
  pub alone : (p : Member) → Among plain p → SamePlace p m → ⊥
  pub least : (o : Member) → Among further o → SamePlace o m → (o ≡ m) ⊎ (member_cmp m o ≡ Less)

-- the members of a set, and those of the further ones that stand where none of them does
abbrev pub Joined : List Member → List Member → Member → Type 0
Joined plain further m = Among plain m ⊎ IsFirst plain further m

-- these members, where they are at most 10,000; crowded where there are more, or where either set is crowded
abbrev pub IsJoined : Leaf → Leaf → Leaf → Type 0
IsJoined (Full plain) (Full further) leaf = IsLeaf (Joined plain further) leaf
IsJoined _ _ leaf = leaf ≡ Crowded

-- no member stands at the place of that one
abbrev pub NoneAt : List Member → Member → Type 0
NoneAt members one = (p : Member) → Among members p → SamePlace p one → ⊥

-- the least of the members at the place of that one
pub record IsLeastAt (members : List Member) (one m : Member) : Type 0 where
  pub among : Among members m
  pub same : SamePlace m one
  pub least : (o : Member) → Among members o → SamePlace o one → (o ≡ m) ⊎ (member_cmp m o ≡ Less)

-- the least of the members at the place of that one, if there are any
abbrev pub IsFirstAt : List Member → Member → Option Member → Type 0
IsFirstAt members one found = MatchOption found (NoneAt members one) (IsLeastAt members one)

-- a further member that is joined, at the place of that one
abbrev pub IsFirstThere : List Member → List Member → Member → Member → Type 0
IsFirstThere plain further m one = SamePlace m one × IsFirst plain further m
