use Rattle.std.proofs.Common.{◌≡◌, ◌++◌, take}
use Rattle.const_prop.specs.Settled.{all_sightings}
use Rattle.const_prop.proofs.idle.add_all.Given as goal

abbrev pub invariant-loop-sighting : goal.invariant-loop-sighting
invariant-loop-sighting l = all_sightings l.into.items ≡ all_sightings l.initial.into.items ++ all_sightings (take l.sighting-index l.sightings)
