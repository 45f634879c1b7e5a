use Rattle.std.proofs.Common.{◌-◌, length}
use Rattle.member_join.proofs.Blocks.{Blocked}
use Rattle.member_join.proofs.block.blocks_of.Given as goal

abbrev pub invariant-loop-from : goal.invariant-loop-from
invariant-loop-from l = Blocked l.members l.from l.blocks.items

abbrev pub decreases-loop-from : goal.decreases-loop-from
decreases-loop-from l = length l.members - l.from
