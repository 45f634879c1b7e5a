use Rattle.std.proofs.Common.{◌≡◌, map, take}
use Rattle.held_values.specs.Merged.{assign_before}
use Rattle.held_values.proofs.merging.resolve.Given as goal

abbrev pub invariant-loop-assign : goal.invariant-loop-assign
invariant-loop-assign l = l.taken.items ≡ map (assign_before l.sources) (take l.assign-index l.node)
