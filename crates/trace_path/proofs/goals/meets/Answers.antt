use Rattle.std.proofs.Common.{arith, refl, get_or}
use Rattle.graph_form.proofs.Amongs.{among_at, among_more}
use Rattle.trace_path.proofs.Members.{none_more}
use Rattle.trace_path.proofs.goals.meets.Goals as goal

pub overflow_add-base : goal.overflow_add-base
overflow_add-base c = omega (arith, c.requires.room _ (among_at c.args.facts.now c.loop-fact.fact-index 0 c.loop-fact-test.true), c.requires.small)

pub has-requires : goal.has-requires
has-requires c = omega (arith, c.requires.room _ (among_at c.args.facts.now c.loop-fact.fact-index 0 c.loop-fact-test.true))

pub returns-then-has : goal.returns-then-has
returns-then-has c = (
  λ t. (get_or c.args.facts.now c.loop-fact.fact-index 0, among_at c.args.facts.now c.loop-fact.fact-index 0 c.loop-fact-test.true, c.has.ensures.0 c.if-has.true),
  λ h. refl,
)

pub loop-fact-preserved : goal.loop-fact-preserved
loop-fact-preserved c h =
    none_more c.args.set.now c.args.base _ _ (get_or c.args.facts.now c.loop-fact.fact-index 0) (among_more c.args.facts.now c.loop-fact.fact-index 0 c.loop-fact-test.true) c.loop-fact.invariant (λ has. let t = c.has.ensures.1 has in let f = c.if-has.false in cc) h
