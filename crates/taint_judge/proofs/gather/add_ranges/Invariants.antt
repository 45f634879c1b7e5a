use Rattle.std.proofs.Common.{◌≡◌, ◌++◌, take, map}
use Rattle.member_join.specs.Choices.{range_of}
use Rattle.taint_judge.proofs.gather.add_ranges.Given as goal

abbrev pub invariant-loop-at : goal.invariant-loop-at
invariant-loop-at l = l.ranges ≡ l.initial.ranges ++ map range_of (take l.at l.members)
