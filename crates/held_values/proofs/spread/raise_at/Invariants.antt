use Rattle.std.proofs.Common.{take}
use Rattle.held_values.specs.Slots.{Raised, ComesAt}
use Rattle.held_values.proofs.spread.raise_at.Given as goal

abbrev pub invariant-loop-target : goal.invariant-loop-target
invariant-loop-target l = Raised (ComesAt l.points l.width (take l.target-index l.targets)) l.initial.slots l.slots
