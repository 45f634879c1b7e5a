use Rattle.std.proofs.Common.{◌↔◌, drop}
use Rattle.sorted_sets.specs.Sizes.{Any}
use Rattle.range_algebra.specs.Conditions.{IsEqualTo}
use Rattle.range_algebra.proofs.condition.begins_equal.Given as goal

abbrev pub invariant-loop-member : goal.invariant-loop-member
invariant-loop-member l = Any (IsEqualTo l.range l.trail) l.members ↔ Any (IsEqualTo l.range l.trail) (drop l.member-index l.members)
