use Rattle.std.proofs.Common.{take}
use Rattle.node_pool.specs.Spots.{all_seen}
use Rattle.unit_effects.specs.Numbering.{entry_value}
use Rattle.const_prop.specs.Idle.{AddsSilent}
use Rattle.const_prop.specs.Settled.{all_sightings}
use Rattle.const_prop.proofs.idle.add_silent_nodes.Given as goal

abbrev pub invariant-loop-spot : goal.invariant-loop-spot
invariant-loop-spot l = AddsSilent (entry_value l.entry) (all_seen (take l.spot-index l.spots)) (all_sightings l.initial.into.items) (all_sightings l.into.items)
