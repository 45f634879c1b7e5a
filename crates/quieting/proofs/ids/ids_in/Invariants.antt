use Rattle.std.proofs.Common.{◌≡◌, ◌++◌, length}
use Rattle.quieting.specs.Ids.{named, pieces_left}
use Rattle.quieting.proofs.ids.ids_in.Given as goal

abbrev pub invariant-pieces : goal.invariant-pieces
invariant-pieces l = l.ids ++ named (pieces_left l.left) ≡ named (pieces_left l.initial.left)

abbrev pub decreases-pieces : goal.decreases-pieces
decreases-pieces l = length (pieces_left l.left)
