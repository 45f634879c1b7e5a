use Rattle.std.proofs.Common.{subst}
use Rattle.std.proofs.lemmas.List.{take_all}
use Rattle.const_prop.specs.Settled.{seen_sighting, all_sightings, AreGathered}
use Rattle.const_prop.proofs.Agreeing.{gathered_none, sight_more}
use Rattle.const_prop.proofs.settling.gather.Goals as goal

pub loop-sighting-init : goal.loop-sighting-init
loop-sighting-init c = gathered_none c.args.count c.in_ok-slots.slots.items c.in_ok-slots.ensures

pub loop-sighting-preserved : goal.loop-sighting-preserved
loop-sighting-preserved c = sight_more seen_sighting c.args.sightings.now c.loop-sighting.sighting-index _ c.args.count c.loop-sighting.slots.items c.add_sighting.new.slots.items c.loop-sighting-test.true c.loop-sighting.invariant c.add_sighting.ensures

pub returns : goal.returns
returns c = subst (λ gs. AreGathered (all_sightings gs) c.args.count c.loop-sighting.slots.items) (take_all c.loop-sighting.sighting-index c.args.sightings.now c.loop-sighting-test.false) c.loop-sighting.invariant
