use Rattle.std.proofs.Common.{◌≡◌, take}
use Rattle.file_parts.specs.Leaves.{those_leaves}
use Rattle.file_parts.proofs.joining.those.Given as goal

abbrev pub invariant-loop-one : goal.invariant-loop-one
invariant-loop-one l = l.those ≡ those_leaves l.resolved (take l.one-index l.leaves)
