use Rattle.std.proofs.Common.{◌↔◌, drop}
use Rattle.sorted_sets.specs.Sizes.{Any}
use Rattle.range_algebra.specs.Conditions.{IsAround}
use Rattle.range_algebra.proofs.condition.has_around.Given as goal

abbrev pub invariant-loop-member : goal.invariant-loop-member
invariant-loop-member l = Any (IsAround l.range l.trail) l.members ↔ Any (IsAround l.range l.trail) (drop l.member-index l.members)
