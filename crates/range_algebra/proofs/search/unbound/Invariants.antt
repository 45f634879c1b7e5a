use Rattle.std.proofs.Common.{◌≡◌, map, take}
use Rattle.range_algebra.specs.Regexes.{unbound}
use Rattle.range_algebra.proofs.search.unbound.Given as goal

abbrev pub invariant-loop-range : goal.invariant-loop-range
invariant-loop-range l = l.members.items ≡ map unbound (take l.range-index l.ranges)
