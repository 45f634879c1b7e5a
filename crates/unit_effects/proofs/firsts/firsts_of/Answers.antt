use Rattle.unit_effects.proofs.Marking.{tell}
use Rattle.unit_effects.proofs.firsts.firsts_of.Goals as goal

pub returns : goal.returns
returns c = tell c.loop-name.firsts.items c.args.once.now c.loop-name.name-iterator c.in-None.ensures.steps.0 c.loop-name.invariant
