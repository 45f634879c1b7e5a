use Rattle.std.proofs.Common.{take}
use Rattle.held_values.specs.Slots.{Raised, ComesTo}
use Rattle.held_values.proofs.spread.raise_to.Given as goal

abbrev pub invariant-loop-point : goal.invariant-loop-point
invariant-loop-point l = Raised (ComesTo l.base (take l.point-index l.points) l.value) l.initial.slots l.slots
