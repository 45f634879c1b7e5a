use Rattle.std.proofs.Common.{◌≡◌, map, take}
use Rattle.piece_match.specs.Union.{moved_part}
use Rattle.piece_match.proofs.unite.union.Given as goal

abbrev pub invariant-loop-leaf : goal.invariant-loop-leaf
invariant-loop-leaf l = map moved_part l.placed ≡ take l.leaf-index l.leaf-items
