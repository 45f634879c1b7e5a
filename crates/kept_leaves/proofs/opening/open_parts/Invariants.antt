use Rattle.std.proofs.Common.{◌≡◌, map, take}
use Rattle.file_parts.specs.Parts.{seen_part}
use Rattle.kept_leaves.specs.Opened.{open_map, pieces_in, IsOpenLeaves, ArePlacesOf, Knows, SeesSame}
use Rattle.kept_leaves.proofs.opening.open_parts.Given as goal

abbrev pub invariant-loop-part : goal.invariant-loop-part
invariant-loop-part l =
    IsOpenLeaves l.leaves
    × Knows l.leaves l.known
    × SeesSame (open_map l.initial.leaves) (open_map l.leaves)
    × (l.leaves.store.path ≡ l.initial.leaves.store.path)
    × (l.parts.items ≡ map seen_part (take l.part-index l.part-items))
    × ArePlacesOf (pieces_in l.leaves) l.places.items l.parts.items
