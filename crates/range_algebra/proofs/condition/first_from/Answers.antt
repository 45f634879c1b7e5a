use Rattle.std.proofs.Common.{◌≡◌, arith}
use Rattle.range_algebra.proofs.Halving.{between_start, between_end}
use Rattle.range_algebra.proofs.condition.first_from.Goals as goal

pub loop-places-init : goal.loop-places-init
loop-places-init c = between_start c.args.range c.args.members.now _ (omega arith)

pub halved-places-requires : goal.halved-places-requires
halved-places-requires c = record { ordered = c.requires.ordered; between = c.loop-places.invariant; some = c.loop-places-test.true }

pub loop-places-preserved : goal.loop-places-preserved
loop-places-preserved c = c.halved-places.ensures.between

pub returns : goal.returns
returns c = between_end c.args.range c.args.members.now _ _ c.loop-places.invariant c.loop-places-test.false
