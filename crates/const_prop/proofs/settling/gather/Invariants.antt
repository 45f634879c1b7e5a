use Rattle.std.proofs.Common.{take}
use Rattle.const_prop.specs.Settled.{all_sightings, AreGathered}
use Rattle.const_prop.proofs.settling.gather.Given as goal

abbrev pub invariant-loop-sighting : goal.invariant-loop-sighting
invariant-loop-sighting l = AreGathered (all_sightings (take l.sighting-index l.sightings)) l.count l.slots.items
