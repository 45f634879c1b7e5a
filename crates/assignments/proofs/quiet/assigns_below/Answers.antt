use Rattle.std.proofs.Common.{◌∙◌, sym, arith}
use Rattle.node_pool.specs.Spots.{seen}
use Rattle.assignments.proofs.QuietBelow.{nothing_below, quiet_more}
use Rattle.assignments.proofs.quiet.assigns_below.Goals as goal

pub loop-further-preserved : goal.loop-further-preserved
loop-further-preserved c =
    quiet_more (seen c.args.node) c.below-spot.result c.loop-further.further (omega arith) (omega (arith, c.size-size.ensures.size, c.loop-further-test.true)) c.below-spot.ensures (sym c.may_assign.ensures ∙ c.if-may_assign.false) c.loop-further.invariant

pub returns : goal.returns
returns c = λ _ field. nothing_below (seen c.args.node) c.loop-further.further (omega (arith, c.size-size.ensures.size, c.loop-further-test.false)) c.loop-further.invariant field
