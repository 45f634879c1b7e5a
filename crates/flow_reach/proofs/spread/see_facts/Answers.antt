use Rattle.std.proofs.Common.{arith}
use Rattle.graph_form.proofs.Amongs.{among_at, among_more}
use Rattle.flow_reach.proofs.Grow.{grows_then}
use Rattle.flow_reach.proofs.Steps.{at_more}
use Rattle.flow_reach.proofs.spread.see_facts.Goals as goal

pub overflow_add-base : goal.overflow_add-base
overflow_add-base c = omega (arith, c.requires.room _ (among_at c.args.facts.now c.loop-fact.fact-index 0 c.loop-fact-test.true), c.requires.shaped.small)

pub see_one-requires-clause-room : goal.see_one-requires-clause-room
see_one-requires-clause-room c = omega (arith, c.requires.room _ (among_at c.args.facts.now c.loop-fact.fact-index 0 c.loop-fact-test.true), c.loop-fact.invariant.room)

pub loop-fact-preserved : goal.loop-fact-preserved
loop-fact-preserved c =
    grows_then _ _ _ _ _ _ c.loop-fact.invariant c.in_ok-see_one.ensures (λ k. at_more c.args.base _ _ _ k (among_more c.args.facts.now c.loop-fact.fact-index 0 c.loop-fact-test.true))
