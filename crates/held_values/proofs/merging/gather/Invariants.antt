use Rattle.std.proofs.Common.{◌≡◌, map, take}
use Rattle.held_values.specs.Merged.{assign_to}
use Rattle.held_values.proofs.merging.gather.Given as goal

abbrev pub invariant-loop-name : goal.invariant-loop-name
invariant-loop-name l = l.assigns.items ≡ map (assign_to l.sources) (take l.name-index l.names)
