-- The leaves of a pattern in parts of a file.
use Rattle.std.specs.Prelude.{◌≡◌, List, [], ◌∷◌, map, filter, Bool, true, false, not}
use Rattle.node_tree.specs.declared.view.Pattern.{Pattern}
use Rattle.node_match.specs.Sets.{Among}
use Rattle.tree_match.specs.declared.leaf.Leaf.{Leaf}
use Rattle.tree_match.specs.declared.leaf.Leaf.TheVariants.{Full}
use Rattle.tree_match.specs.Leaf.{IsLeaf}
use Rattle.piece_match.specs.declared.unite.PlacedLeaf.{PlacedLeaf}
use Rattle.piece_match.specs.Pieces.{IsPieceMember, known_piece}
use Rattle.file_parts.specs.declared.joining.PartLeaf.{PartLeaf}
use Rattle.file_parts.specs.Parts.{SeenPart, seen_part, is_needed}

-- the leaf is that of a pattern in the part
abbrev pub IsLeafIn : Pattern → SeenPart → Leaf → Type 0
IsLeafIn pattern p leaf = IsLeaf (IsPieceMember pattern (known_piece p.placed.piece)) leaf

-- the pattern has no member in the part
abbrev pub HasNoneIn : Pattern → SeenPart → Type 0
HasNoneIn pattern p = IsLeafIn pattern p (Full [])

-- these are the leaves of a pattern in those parts, in order; parts in which it has no member may be left out
pub data AreLeavesOf (pattern : Pattern) : List SeenPart → List PartLeaf → Type 0 where
  no_leaf : AreLeavesOf pattern [] []
  one_less : {p : SeenPart} {ps : List SeenPart} {ls : List PartLeaf} → HasNoneIn pattern p → AreLeavesOf pattern ps ls → AreLeavesOf pattern (p ∷ ps) ls
  one_more : {p : SeenPart} {l : PartLeaf} {ps : List SeenPart} {ls : List PartLeaf} → seen_part l.part ≡ p → IsLeafIn pattern p l.leaf.now → AreLeavesOf pattern ps ls → AreLeavesOf pattern (p ∷ ps) (l ∷ ls)

-- the pattern has no member in those of these parts that it needs and that are of the file as it is written
abbrev pub HasNoneWritten : Pattern → List SeenPart → Type 0
HasNoneWritten pattern parts = (p : SeenPart) → Among parts p → p.resolved ≡ false → is_needed pattern p ≡ true → HasNoneIn pattern p

abbrev pub is_same : Bool → Bool → Bool
is_same true b = b
is_same _ b = not b

-- those of the file as it is written, or with its names resolved, each with where its piece starts
abbrev pub those_leaves : Bool → List PartLeaf → List PlacedLeaf
those_leaves resolved ls = map (λ (l : PartLeaf). record { start = l.part.placed.now.start; leaf = l.leaf }) (filter (λ (l : PartLeaf). is_same resolved l.part.resolved) ls)
