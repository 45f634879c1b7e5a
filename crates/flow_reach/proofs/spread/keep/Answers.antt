use Rattle.std.proofs.Common.{arith, ◌+◌, ◌*◌}
use Rattle.graph_form.proofs.Amongs.{among_at, among_more}
use Rattle.flow_reach.specs.Bits.{InWord}
use Rattle.flow_reach.proofs.Grow.{grows_then}
use Rattle.flow_reach.proofs.Steps.{each_more}
use Rattle.flow_reach.proofs.spread.keep.Goals as goal

pub overflow_mul-point : goal.overflow_mul-point
overflow_mul-point c = omega (arith, c.requires.room _ (among_at c.args.points.now c.loop-point.point-index 0 c.loop-point-test.true), c.requires.shaped.small)

pub overflow_add-point : goal.overflow_add-point
overflow_add-point c = omega (arith, c.requires.room _ (among_at c.args.points.now c.loop-point.point-index 0 c.loop-point-test.true), c.requires.shaped.small)

pub see-requires-clause-word : goal.see-requires-clause-word
see-requires-clause-word c = omega (arith, c.requires.room _ (among_at c.args.points.now c.loop-point.point-index 0 c.loop-point-test.true), c.loop-point.invariant.room)

pub loop-point-preserved : goal.loop-point-preserved
loop-point-preserved c =
    grows_then _ _ _ _ _ _ c.loop-point.invariant c.in_ok-see.ensures (λ k. each_more (λ p. InWord (p * c.args.width + c.args.column) c.args.kept k) _ _ _ (among_more c.args.points.now c.loop-point.point-index 0 c.loop-point-test.true))
