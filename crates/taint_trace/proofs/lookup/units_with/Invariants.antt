use Rattle.std.proofs.Common.{◌≡◌, map, take}
use Rattle.taint_trace.specs.declared.standing.Standing.{Standing}
use Rattle.taint_trace.proofs.lookup.units_with.Given as goal

abbrev pub invariant-loop-standing : goal.invariant-loop-standing
invariant-loop-standing l = l.places.items ≡ map (λ (s : Standing). s.place) (take l.standing-index l.found)
