use Rattle.std.proofs.Common.{take}
use Rattle.unit_effects.specs.Numbering.{entry_value}
use Rattle.const_prop.specs.Idle.{AddsAllSilent}
use Rattle.const_prop.specs.Settled.{all_sightings}
use Rattle.const_prop.proofs.idle.add_silent.Given as goal

abbrev pub invariant-loop-point : goal.invariant-loop-point
invariant-loop-point l = AddsAllSilent l.tree (entry_value l.entry) (take l.point-index l.point-items) (all_sightings l.initial.into.items) (all_sightings l.into.items)
