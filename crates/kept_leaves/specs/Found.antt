-- The parts in which a pattern may have members.
use Rattle.std.specs.Prelude.{◌≡◌, List, [], ◌∷◌, Bool, true, false}
use Rattle.node_tree.specs.declared.view.Pattern.{Pattern}
use Rattle.file_parts.specs.Leaves.{HasNoneIn}
use Rattle.file_parts.specs.Parts.{SeenPart, seen_part, is_needed}
use Rattle.kept_leaves.specs.declared.found.FoundPart.{FoundPart}
use Rattle.kept_leaves.specs.Kept.{PieceRef}
use Rattle.kept_leaves.specs.Opened.{IsPlaceOf}

abbrev pub seen_found : FoundPart → SeenPart
seen_found f = seen_part f.part

-- a pattern may have members in a part only if it needs the part; where it may not, it has none
pub record IsTold (pattern : Pattern) (part : SeenPart) (may : Bool) : Type 0 where
  pub needs : may ≡ true → is_needed pattern part ≡ true
  pub none : may ≡ false → is_needed pattern part ≡ true → HasNoneIn pattern part

-- these are all of those parts, in order, but for some in which the pattern has no member; the row of each stands at its place
pub data AreFound (pattern : Pattern) (pieces : List PieceRef) : List SeenPart → List FoundPart → Type 0 where
  none_found : AreFound pattern pieces [] []
  found_less : {p : SeenPart} {ps : List SeenPart} {fs : List FoundPart} → HasNoneIn pattern p → AreFound pattern pieces ps fs → AreFound pattern pieces (p ∷ ps) fs
  found_more : {p : SeenPart} {f : FoundPart} {ps : List SeenPart} {fs : List FoundPart} → seen_found f ≡ p → IsPlaceOf pieces f.place p → AreFound pattern pieces ps fs → AreFound pattern pieces (p ∷ ps) (f ∷ fs)
