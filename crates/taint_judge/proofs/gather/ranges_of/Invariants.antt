use Rattle.std.proofs.Common.{◌≡◌, ◌++◌, drop, map}
use Rattle.member_join.specs.Choices.{range_of}
use Rattle.taint_judge.specs.Lists.{together}
use Rattle.taint_judge.proofs.gather.ranges_of.Given as goal

abbrev pub invariant-loop-members : goal.invariant-loop-members
invariant-loop-members l = l.ranges ++ map range_of (together (drop l.members-index l.each)) ≡ map range_of (together l.each)
