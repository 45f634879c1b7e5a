use Rattle.std.proofs.Common.{take}
use Rattle.member_join.specs.Blocks.{IsReach}
use Rattle.member_join.proofs.block.range_of.Given as goal

abbrev pub invariant-loop-member : goal.invariant-loop-member
invariant-loop-member l = IsReach l.range (take l.member-index l.members)
