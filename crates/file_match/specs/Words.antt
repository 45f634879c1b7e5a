-- The words of a file, and those that a pattern needs.
use Rattle.std.specs.Prelude.{◌≡◌, ◌↔◌, ◌<◌, ◌≤◌, ℕ, ◌+◌, ◌*◌, ◌/◌, ◌%◌, List, [], ◌∷◌, length, nat_eq, Bool, true, not, Some}
use Rattle.std.specs.List.{slice_get, slice_index_or}
use Rattle.std.specs.Int.{bit_at}
use Rattle.node_tree.specs.declared.node.Node.{Node}
use Rattle.node_tree.specs.declared.kind.Kind.{Kind}
use Rattle.node_tree.specs.declared.view.Shape.{Shape}
use Rattle.node_tree.specs.declared.view.Shape.TheVariants.{Expr, Run}
use Rattle.node_tree.specs.declared.view.Pattern.{Pattern}
use Rattle.node_tree.specs.Tree.{kind_of, text_of, kids_of, pre_of}
use Rattle.node_tree.specs.Order.{kind_place}
use Rattle.node_match.specs.declared.class.Role.TheVariants as roles
use Rattle.node_match.specs.Sets.{Among}
use Rattle.node_tree.specs.Kinds.{is_literal}
use Rattle.node_match.specs.Kinds.{role_of}
use Rattle.node_match.specs.Free.{parts_of, IsTextFree}
use Rattle.tree_code.specs.Sums.{mixed}

-- a kind and a text
abbrev pub Word : Type 0
Word = Kind × List ℕ

abbrev pub word_of : Node → Word
word_of n = (kind_of n, text_of n)

-- some of these nodes has that word
abbrev pub Has : List Node → Word → Type 0
Has ns w = (m : Node) × Among ns m × (word_of m ≡ w)

-- what the pattern matches has the word, or holds a node that has it; a literal may stand for a name, unless names hold
-- nothing
pub data Needs (fixed : Bool) : Node → Word → Type 0 where
  own : {p : Node} → role_of (kind_of p) ≡ roles.Plain → (IsTextFree p → ⊥) → (is_literal (kind_of p) ≡ true → fixed ≡ true) → Needs fixed p (word_of p)
  below : {p q : Node} {w : Word} → role_of (kind_of p) ≡ roles.Plain → (is_literal (kind_of p) ≡ true → ⊥) → Among (parts_of p) (Some q) → Needs fixed q w → Needs fixed p w
  inside : {p q : Node} {w : Word} → role_of (kind_of p) ≡ roles.Deep → kids_of p ≡ q ∷ [] → Needs fixed q w → Needs fixed p w

-- one of the parts needs the word
abbrev pub PartNeeds : Bool → Node → Word → Type 0
PartNeeds fixed p w = (q : Node) × Among (parts_of p) (Some q) × Needs fixed q w

-- a pattern of that shape needs the word
abbrev pub NeedsOf : Bool → Shape → Node → Word → Type 0
NeedsOf fixed Expr p w = Needs fixed p w
NeedsOf fixed Run p w = PartNeeds fixed p w

-- the tree lacks a word that the pattern needs
abbrev pub Lacks : Bool → Shape → Node → Node → Type 0
Lacks fixed shape p tree = (w : Word) × NeedsOf fixed shape p w × (Has (pre_of tree) w → ⊥)

-- ---- marks

-- the place of a word among 65536
abbrev pub place_of : Word → ℕ
place_of w = mixed (kind_place w.0) w.1

-- the place of a word among so many
abbrev pub place_among : ℕ → Word → ℕ
place_among count w = place_of w % count

-- one of these nodes has a word of that place
abbrev pub HasPlace : List Node → ℕ → Type 0
HasPlace ns place = (n : Node) × Among ns n × (place_of (word_of n) ≡ place)

-- the same among so many places
abbrev pub HasPlaceAmong : ℕ → List Node → ℕ → Type 0
HasPlaceAmong count ns place = (n : Node) × Among ns n × (place_among count (word_of n) ≡ place)

-- a place is marked, by its bit in numbers of 64
abbrev pub is_marked : List ℕ → ℕ → Bool
is_marked marks place = nat_eq (bit_at (slice_index_or marks (place / 64) 0) (place % 64)) 1

abbrev pub IsMarked : List ℕ → ℕ → Type 0
IsMarked marks place = is_marked marks place ≡ true

-- there are some places, and a bit for each
abbrev pub HasRoom : ℕ → List ℕ → Type 0
HasRoom count marks = (0 < count) × (count ≤ 64 * length marks)

-- just the places of the nodes' words, among so many, are marked
pub record Covers (count : ℕ) (marks : List ℕ) (ns : List Node) : Type 0 where
  pub room : HasRoom count marks
  pub exact : (place : ℕ) → IsMarked marks place ↔ HasPlaceAmong count ns place

-- the place of a word of this set
abbrev pub PlaceIn : (Word → Type 0) → ℕ → Type 0
PlaceIn Set place = (w : Word) × Set w × (place ≡ place_of w)

-- these are just the places of the words that the pattern needs
abbrev pub ArePlaces : Bool → Shape → Node → List ℕ → Type 0
ArePlaces fixed shape p places = (place : ℕ) → Among places place ↔ PlaceIn (NeedsOf fixed shape p) place

-- each place is marked, as a place among so many
abbrev pub AreMarked : ℕ → List ℕ → List ℕ → Type 0
AreMarked count marks places = (place : ℕ) → Among places place → IsMarked marks (place % count)

-- for each word that the pattern needs, whatever names are known to hold literals, the tree has one of the same place
abbrev pub MayHave : Pattern → Node → Type 0
MayHave p tree = (w : Word) → NeedsOf (not p.constants) p.shape p.tree w → HasPlace (pre_of tree) (place_of w)

-- ---- step by step

-- the pattern node needs the word as its own
abbrev pub NeedsOwn : Bool → Node → Word → Type 0
NeedsOwn fixed p w = (IsTextFree p → ⊥) × (is_literal (kind_of p) ≡ true → fixed ≡ true) × (word_of p ≡ w)

-- it needs the word for one of its parts; a literal has none that count
abbrev pub NeedsBelow : Bool → Node → Word → Type 0
NeedsBelow fixed p w = (is_literal (kind_of p) ≡ true → ⊥) × PartNeeds fixed p w

-- the part at this place needs the word
abbrev pub NeedsAt : Bool → Node → ℕ → Word → Type 0
NeedsAt fixed p at w = (q : Node) × (slice_get (parts_of p) at ≡ Some (Some q)) × Needs fixed q w
