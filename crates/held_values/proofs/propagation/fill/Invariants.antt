use Rattle.held_values.specs.Closing.{IsClosing}
use Rattle.held_values.specs.Slots.{weight_of}
use Rattle.held_values.proofs.propagation.fill.Given as goal

abbrev pub decreases-loop-at : goal.decreases-loop-at
decreases-loop-at l = weight_of l.slots

abbrev pub invariant-loop-at : goal.invariant-loop-at
invariant-loop-at l = IsClosing l.graph l.effects l.merged.items l.slots
