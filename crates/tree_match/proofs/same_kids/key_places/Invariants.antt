use Rattle.std.proofs.Common.{◌≡◌, ◌<◌, ℕ, get_or}
use Rattle.std.specs.List.{Contains}
use Rattle.node_tree.specs.declared.node.Node.{Node}
use Rattle.tree_match.specs.Checksums.{checksum}
use Rattle.tree_match.specs.Same.{IsKey, place_number}
use Rattle.tree_match.proofs.same_kids.key_places.Given as goal

abbrev pub invariant-loop-i : goal.invariant-loop-i
invariant-loop-i l = (j : ℕ) (n : Node) → j < l.i → n ≡ get_or l.kids j n → (key : Node) × IsKey l.kind l.pattern l.name n key × Contains l.places.items (place_number (checksum key) j)
