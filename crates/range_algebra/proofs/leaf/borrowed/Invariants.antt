use Rattle.std.proofs.Common.{◌≡◌, take}
use Rattle.range_algebra.proofs.leaf.borrowed.Given as goal

abbrev pub invariant-loop-at : goal.invariant-loop-at
invariant-loop-at l = l.members.items ≡ take l.at l.set
