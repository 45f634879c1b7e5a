use Rattle.held_values.specs.Slots.{Raised, Enters}
use Rattle.held_values.proofs.spread.enter.Given as goal

abbrev pub invariant-loop-name : goal.invariant-loop-name
invariant-loop-name l = Raised (Enters l.start l.width l.name) l.initial.slots l.slots
