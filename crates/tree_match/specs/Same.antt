-- Kids in which a name stands for the same.
use Rattle.std.specs.Prelude.{◌≡◌, ◌+◌, ◌*◌, ◌<◌, ℕ, zero, suc, List, [], ◌∷◌, length, slice_index_or, None, Some}
use Rattle.std.specs.List.{Contains}
use Rattle.std.specs.List.Sorted.{IsNonDecreasing}
use Rattle.node_tree.specs.declared.node.Node.{Node}
use Rattle.node_tree.specs.declared.kind.Kind.{Kind}
use Rattle.node_tree.specs.declared.known.Known.{Known}
use Rattle.node_tree.specs.Tree.{kind_of, content_of}
use Rattle.node_tree.specs.Numbers.{Numbered}
use Rattle.meta_bind.specs.declared.bound.Bound.{Bound}
use Rattle.meta_bind.specs.Bounds.{bound_at}
use Rattle.node_match.specs.Free.{Part}
use Rattle.node_match.specs.Kinds.{role_of, IsOne}
use Rattle.node_match.specs.Relation.{MatchesKid}
use Rattle.node_search.specs.Steady.{IsSteady}
use Rattle.tree_match.specs.Checksums.{checksum}
use Rattle.tree_match.specs.declared.same_kids.SameKids.{SameKids}

-- the name stands for one node, of that content
pub record StandsFor (name : List ℕ) (b : List Bound) (content : Node) : Type 0 where
  pub old : Bound
  pub bound : bound_at name b ≡ Some old
  pub one : old.nodes ≡ content ∷ []

-- where the pattern matches a kid of a holder of that kind, this node of the kid has the content for which the name stands
abbrev pub IsKey : Kind → Node → List ℕ → Node → Node → Type 0
IsKey holder p name n key = (C : List Known) (h s : Numbered) → kind_of h.node ≡ holder → s.node ≡ n → (b c : List Bound) (content : Node) → StandsFor name b content → MatchesKid C h p s b c → content_of key ≡ content

-- the part takes one kid, and has no name
abbrev pub Passes : Part → Type 0
Passes None = Unit {0}
Passes (Some q) = IsOne (role_of (kind_of q)) × IsSteady [] q

-- so does each of the first parts, so many
abbrev pub PassBefore : ℕ → List Part → Type 0
PassBefore zero ps = Unit {0}
PassBefore (suc k) [] = Unit {0}
PassBefore (suc k) (p ∷ ps) = Passes p × PassBefore k ps

-- a number made of a checksum and a place
abbrev pub place_number : ℕ → ℕ → ℕ
place_number sum place = sum * 4294967296 + place

-- of each kid there is the number of the checksum of such a node and of its place
abbrev pub AreKeyPlaces : Kind → Node → List ℕ → List Node → List ℕ → Type 0
AreKeyPlaces holder p name ns places = (i : ℕ) (n : Node) → i < length ns → n ≡ slice_index_or ns i n → (key : Node) × IsKey holder p name n key × Contains places (place_number (checksum key) i)

-- those numbers in order
pub record IsIndex (holder : Kind) (p : Node) (ns : List Node) (same : SameKids) : Type 0 where
  pub keys : AreKeyPlaces holder p same.name ns same.places.items
  pub sorted : IsNonDecreasing same.places.items
