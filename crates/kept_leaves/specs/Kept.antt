-- What is kept: a finite map from pairs to leaves, and which of the pairs were met since the last turn.
use Rattle.std.specs.Prelude.{◌≡◌, ℕ, List, [], Option, Some, Bool, true}
use Rattle.std.specs.declared.cmp.Ordering.{Ordering}
use Rattle.std.specs.declared.rc.Rc.{Rc}
use Rattle.std.specs.Global.{Global}
use Rattle.std.specs.Ordering.{nat_cmp, ordering_then}
use Rattle.std.specs.Cmp.Lexicographic.{slice_cmp}
use Rattle.piece_form.specs.declared.key.PieceKey.{PieceKey}
use Rattle.piece_form.specs.declared.key.PatternKey.{PatternKey}
use Rattle.piece_form.specs.Keys.{IsKeyOf, IsPatternKeyOf}
use Rattle.piece_match.specs.Pieces.{IsPieceMember, known_piece}
use Rattle.piece_store.specs.declared.store.Store.{Store}
use Rattle.piece_store.specs.Kept.{kept, IsSound}
use Rattle.tree_match.specs.declared.leaf.Leaf.{Leaf}
use Rattle.tree_match.specs.declared.leaf.Leaf.TheVariants.{Full}
use Rattle.tree_match.specs.Leaf.{IsLeaf}
use Rattle.kept_leaves.specs.declared.leaf.KeptLeaf.{KeptLeaf}
use Rattle.kept_leaves.specs.declared.leaf.KeptPairs.{KeptPairs}
use Rattle.kept_leaves.specs.Pairs.{Pair}

-- ---- keys, by which the store finds pieces and patterns

abbrev pub PieceRef : Type 0
PieceRef = Rc PieceKey Global

abbrev pub PatternRef : Type 0
PatternRef = Rc PatternKey Global

-- by how many bytes there are, then by these, then by the code
abbrev pub piece_cmp : PieceRef → PieceRef → Ordering
piece_cmp a b = ordering_then (nat_cmp a.value.size b.value.size) (ordering_then (slice_cmp nat_cmp a.value.bytes.items b.value.bytes.items) (slice_cmp nat_cmp a.value.code.items b.value.code.items))

-- by the number made from the code, then by the code
abbrev pub pattern_cmp : PatternRef → PatternRef → Ordering
pattern_cmp a b = ordering_then (nat_cmp a.value.sum b.value.sum) (slice_cmp nat_cmp a.value.code.items b.value.code.items)

-- what is kept for a path, a piece and a pattern by their keys: the leaf, and whether the pair was met since the last turn
abbrev pub Map : Type 0
Map = List ℕ → PieceRef → PatternRef → Option (KeptLeaf × Bool)

-- these are keys of the pair's piece and pattern
pub record AreKeys (x : Pair) (piece : PieceRef) (pattern : PatternRef) : Type 0 where
  pub of_piece : IsKeyOf x.piece piece.value
  pub of_pattern : IsPatternKeyOf x.pattern pattern.value

-- ---- pairs that are kept

-- the leaf is kept for the pair, which was met since the last turn, or wasn't
pub record Keeps (map : Map) (x : Pair) (leaf : Leaf) (met : Bool) : Type 0 where
  pub piece : PieceRef
  pub pattern : PatternRef
  pub are_keys : AreKeys x piece pattern
  pub found : map x.path piece pattern ≡ Some (record { leaf = leaf }, met)

-- a leaf is kept for the pair
abbrev pub IsKept : Map → Pair → Type 0
IsKept map x = (leaf : Leaf) × (met : Bool) × Keeps map x leaf met

-- it is kept, and was met since the last turn
abbrev pub IsMet : Map → Pair → Type 0
IsMet map x = (leaf : Leaf) × Keeps map x leaf true

-- no pair was met since the last turn
abbrev pub IsNoneMet : Map → Type 0
IsNoneMet map = (x : Pair) → IsMet map x → ⊥

-- no pair is kept
abbrev pub IsEmpty : Map → Type 0
IsEmpty map = (x : Pair) → IsKept map x → ⊥

-- each kept leaf has the members of the pair's pattern in its piece
abbrev pub AreRight : Map → Type 0
AreRight map = (x : Pair) (leaf : Leaf) (met : Bool) → Keeps map x leaf met → IsLeaf (IsPieceMember x.pattern (known_piece x.piece)) leaf

-- the leaf without members
abbrev pub nothing : KeptLeaf
nothing = record { leaf = Full [] }

abbrev pub Leaves : Type 0
Leaves = Store PieceRef PatternRef KeptLeaf

-- what a store keeps
abbrev pub kept_in : Leaves → Map
kept_in store = kept piece_cmp pattern_cmp store

abbrev pub map_of : KeptPairs → Map
map_of pairs = kept_in pairs.store

-- what is true of the store
pub record IsStore (store : Leaves) : Type 0 where
  pub sound : IsSound piece_cmp pattern_cmp nothing store
  pub right : AreRight (kept_in store)
