-- Where a part of a pattern may match next.
use Rattle.std.specs.Prelude.{◌≡◌, ◌<◌, ◌≤◌, ◌+◌, ℕ, List, ◌∷◌, length, drop, slice_get, slice_index_or, Option, Some}
use Rattle.node_tree.specs.declared.kind.Kind.{Kind}
use Rattle.node_tree.specs.declared.node.Node.{Node}
use Rattle.node_tree.specs.Tree.{kids_of, kind_of}
use Rattle.node_tree.specs.declared.known.Known.{Known}
use Rattle.meta_bind.specs.declared.bound.Bound.{Bound}
use Rattle.node_tree.specs.Numbers.{Numbered}
use Rattle.node_match.specs.Free.{Part}
use Rattle.node_match.specs.Kinds.{role_of, IsOne}
use Rattle.node_match.specs.Refused.{IsKidRefused}
use Rattle.node_match.specs.declared.class.Role.TheVariants.{Dots}
use Rattle.node_match.specs.Relation.{MatchesKid}
use Rattle.tree_match.specs.declared.next_places.NextPlaces.{NextPlaces}
use Rattle.tree_match.specs.declared.next_places.NextPlaces.TheVariants.{Looked, Named}
use Rattle.tree_match.specs.Same.{IsIndex}

-- each place is that one or a later one
abbrev pub AreForward : List ℕ → Type 0
AreForward next = (i j : ℕ) → i < length next → j ≡ slice_index_or next i j → i ≤ j

-- for each of the kids of a node of that kind a place from it on, where the pattern matches none of those before that place
pub record LeapsOver (kind : Kind) (p : Node) (ns : List Node) (next : List ℕ) : Type 0 where
  pub size : length next ≡ length ns
  pub on : AreForward next
  pub over : (i j k : ℕ) (n : Node) → i < length ns → j ≡ slice_index_or next i j → i ≤ k → k < j → k < length ns → n ≡ slice_index_or ns k n → IsKidRefused kind p n

-- these are next places of the pattern among the kids of a node of that kind
abbrev pub IsNext : Kind → Node → List Node → NextPlaces → Type 0
IsNext kind p ns (Looked next) = LeapsOver kind p ns next.items
IsNext kind p ns (Named same) = IsIndex kind p ns same

-- the part at that place takes one kid, and these are its next places among the kids of the node
abbrev pub IsNextOf : Numbered → List Part → ℕ → NextPlaces → Type 0
IsNextOf h ps at places = (p : Node) × (drop at ps ≡ Some p ∷ drop (at + 1) ps) × IsOne (role_of (kind_of p)) × IsNext (kind_of h.node) p (kids_of h.node) places

-- the same of each part for which there are some
abbrev pub AreNextOf : Numbered → List Part → List (Option NextPlaces) → Type 0
AreNextOf h ps nexts = (at : ℕ) (places : NextPlaces) → slice_get nexts at ≡ Some (Some places) → IsNextOf h ps at places

-- with that binding the pattern doesn't match the node as a kid of a holder of that kind, whatever is known
abbrev pub IsOut : Kind → Node → List Bound → Node → Type 0
IsOut kind p b n = (C : List Known) (h s : Numbered) → kind_of h.node ≡ kind → s.node ≡ n → (c : List Bound) → MatchesKid C h p s b c → ⊥

-- the same of each node from one place up to another
abbrev pub AreOut : Kind → Node → List Bound → List Node → ℕ → ℕ → Type 0
AreOut kind p b ns from to = (k : ℕ) (n : Node) → from ≤ k → k < to → k < length ns → n ≡ slice_index_or ns k n → IsOut kind p b n

-- `...` follows the part at that place
pub record DotsFollow (ps : List Part) (at : ℕ) : Type 0 where
  pub dots : Node
  pub role : role_of (kind_of dots) ≡ Dots
  pub next : drop (at + 1) ps ≡ Some dots ∷ drop (at + 2) ps

-- a part takes one kid, and a look rules out each of the kids from one on
pub record IsPast (h : Numbered) (ps : List Part) (from : ℕ) : Type 0 where
  pub at : ℕ
  pub part : Node
  pub next : drop at ps ≡ Some part ∷ drop (at + 1) ps
  pub one : IsOne (role_of (kind_of part))
  pub out : (b : List Bound) → AreOut (kind_of h.node) part b (kids_of h.node) from (length (kids_of h.node))
