use Rattle.std.proofs.Common.{◌≡◌, take, map}
use Rattle.member_join.specs.Choices.{range_of}
use Rattle.taint_judge.proofs.gather.places_of.Given as goal

abbrev pub invariant-loop-range : goal.invariant-loop-range
invariant-loop-range l = l.ranges ≡ map range_of (take l.range-index l.members)
