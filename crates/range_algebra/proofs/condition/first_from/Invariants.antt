use Rattle.std.proofs.Common.{◌-◌}
use Rattle.range_algebra.specs.Halves.{IsBetween}
use Rattle.range_algebra.proofs.condition.first_from.Given as goal

abbrev pub invariant-loop-places : goal.invariant-loop-places
invariant-loop-places l = IsBetween l.range l.members l.places.0 l.places.1

abbrev pub decreases-loop-places : goal.decreases-loop-places
decreases-loop-places l = l.places.1 - l.places.0
