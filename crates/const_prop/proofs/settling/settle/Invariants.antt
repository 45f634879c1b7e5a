use Rattle.const_prop.specs.Settled.{all_sightings, AreSettled}
use Rattle.const_prop.proofs.settling.settle.Given as goal

abbrev pub invariant-loop-at : goal.invariant-loop-at
invariant-loop-at l = AreSettled l.tree (all_sightings l.sightings) l.at l.known
