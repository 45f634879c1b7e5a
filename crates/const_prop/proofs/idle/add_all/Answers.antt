use Rattle.std.proofs.Common.{◌++◌, ap, ◌∙◌}
use Rattle.std.proofs.lemmas.List.{take_all}
use Rattle.const_prop.specs.Settled.{seen_sighting, all_sightings}
use Rattle.const_prop.proofs.Idling.{pushed_copy}
use Rattle.const_prop.proofs.idle.add_all.Goals as goal

pub loop-sighting-preserved : goal.loop-sighting-preserved
loop-sighting-preserved c = pushed_copy seen_sighting c.args.sightings.now c.loop-sighting.sighting-index _ (all_sightings c.args.into.now.items) _ _ c.loop-sighting-test.true c.loop-sighting.invariant c.in_ok-push.ensures.items

pub returns : goal.returns
returns c = c.loop-sighting.invariant ∙ ap (λ gs. all_sightings c.args.into.now.items ++ all_sightings gs) (take_all c.loop-sighting.sighting-index c.args.sightings.now c.loop-sighting-test.false)
