use Rattle.std.proofs.Common.{arith, refl, ◌*◌}
use Rattle.graph_form.proofs.Amongs.{among_at, among_more}
use Rattle.flow_reach.specs.Spread.{At}
use Rattle.flow_reach.proofs.Grow.{grows_then}
use Rattle.flow_reach.proofs.Steps.{each_more}
use Rattle.flow_reach.proofs.spread.see_each.Goals as goal

pub overflow_mul-point : goal.overflow_mul-point
overflow_mul-point c = omega (arith, c.requires.small _ (among_at c.args.points.now c.loop-point.point-index 0 c.loop-point-test.true))

pub see_facts-requires-clause-room : goal.see_facts-requires-clause-room
see_facts-requires-clause-room c fact among =
    omega (arith, c.requires.room _ (_, among_at c.args.points.now c.loop-point.point-index 0 c.loop-point-test.true, (fact, among, refl)), c.loop-point.invariant.room)

pub loop-point-preserved : goal.loop-point-preserved
loop-point-preserved c =
    grows_then _ _ _ _ _ _ c.loop-point.invariant c.in_ok-see_facts.ensures (λ k. each_more (λ p. At (p * c.args.stride) c.args.facts.now k) _ _ _ (among_more c.args.points.now c.loop-point.point-index 0 c.loop-point-test.true))
