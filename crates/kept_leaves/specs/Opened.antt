-- What is kept while a file is searched: the rows of the file's pieces are in hand.
use Rattle.std.specs.Prelude.{◌≡◌, ◌++◌, ℕ, List, [], map, length, slice_get, slice_index, Some, MatchOption}
use Rattle.std.specs.declared.cmp.Ordering.TheVariants.{Equal}
use Rattle.std.specs.BTreeMap.{BTreeMap, get}
use Rattle.node_tree.specs.declared.view.Pattern.{Pattern}
use Rattle.piece_form.specs.Keys.{IsKeyOf, IsPatternKeyOf}
use Rattle.open_store.specs.declared.held.HeldRow.{HeldRow}
use Rattle.open_store.specs.InHand.{held, IsOpen}
use Rattle.file_parts.specs.Parts.{SeenPart}
use Rattle.kept_leaves.specs.declared.leaf.KeptLeaf.{KeptLeaf}
use Rattle.kept_leaves.specs.declared.leaf.OpenLeaves.{OpenLeaves}
use Rattle.kept_leaves.specs.Kept.{PieceRef, PatternRef, Map, piece_cmp, pattern_cmp, nothing, AreRight}

-- what is kept then
abbrev pub open_map : OpenLeaves → Map
open_map leaves = held piece_cmp pattern_cmp leaves.store

-- what is true of it
pub record IsOpenLeaves (leaves : OpenLeaves) : Type 0 where
  pub is_open : IsOpen piece_cmp pattern_cmp nothing leaves.store
  pub right : AreRight (open_map leaves)

-- both keep the same for all keys
abbrev pub SeesSame : Map → Map → Type 0
SeesSame old new = (path : List ℕ) (piece : PieceRef) (pattern : PatternRef) → new path piece pattern ≡ old path piece pattern

-- ---- places of rows, and numbers of patterns

-- the pieces whose rows are in hand
abbrev pub pieces_in : OpenLeaves → List PieceRef
pieces_in leaves = map (λ (r : HeldRow PieceRef KeptLeaf). r.piece) leaves.store.rows.items

abbrev pub HasNoRow : OpenLeaves → Type 0
HasNoRow leaves = leaves.store.rows.items ≡ []

-- the piece at the place is that of the part
pub record IsPlaceOf (pieces : List PieceRef) (place : ℕ) (part : SeenPart) : Type 0 where
  pub key : PieceRef
  pub stands : slice_get pieces place ≡ Some key
  pub of_piece : IsKeyOf part.placed.piece key.value

-- there is a place for each part
pub record ArePlacesOf (pieces : List PieceRef) (places : List ℕ) (parts : List SeenPart) : Type 0 where
  pub as_many : length places ≡ length parts
  pub each : (i : ℕ) (part : SeenPart) → slice_get parts i ≡ Some part → IsPlaceOf pieces (slice_index places i) part

-- the pattern has that number
pub record IsNumberOf (leaves : OpenLeaves) (number : ℕ) (pattern : Pattern) : Type 0 where
  pub key : PatternRef
  pub of_pattern : IsPatternKeyOf pattern key.value
  pub found : get pattern_cmp leaves.store.store.numbers key ≡ Some number

-- the path and the pieces in hand stay
pub record KeepsPlaces (old new : OpenLeaves) : Type 0 where
  pub path : new.store.path ≡ old.store.path
  pub pieces : pieces_in new ≡ pieces_in old

-- the path, the pieces in hand and the numbers stay
pub record StaysOpen (old new : OpenLeaves) : Type 0 where
  pub path : new.store.path ≡ old.store.path
  pub pieces : pieces_in new ≡ pieces_in old
  pub numbers : new.store.store.numbers ≡ old.store.store.numbers

-- the path stays, and pieces come behind those that are in hand
pub record Extends (old new : OpenLeaves) : Type 0 where
  pub path : new.store.path ≡ old.store.path
  pub more : List PieceRef
  pub pieces : pieces_in new ≡ pieces_in old ++ more

-- no piece in hand is that of the key
abbrev pub IsOut : OpenLeaves → PieceRef → Type 0
IsOut leaves key = (place : ℕ) (piece : PieceRef) → slice_get (pieces_in leaves) place ≡ Some piece → piece_cmp piece key ≡ Equal → ⊥

-- the piece in hand at the place is that of the key
abbrev pub IsIn : OpenLeaves → PieceRef → ℕ → Type 0
IsIn leaves key place = (piece : PieceRef) × (slice_get (pieces_in leaves) place ≡ Some piece) × (piece_cmp piece key ≡ Equal)

-- the map has the places of just the pieces in hand
abbrev pub Knows : OpenLeaves → BTreeMap PieceRef ℕ → Type 0
Knows leaves places = (key : PieceRef) → MatchOption (get piece_cmp places key) (IsOut leaves key) (IsIn leaves key)
