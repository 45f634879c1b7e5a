use Rattle.std.proofs.Common.{◌≡◌, take}
use Rattle.member_join.proofs.block.sorted.Given as goal

abbrev pub invariant-loop-member : goal.invariant-loop-member
invariant-loop-member l = l.sorted.items ≡ take l.member-index l.members
