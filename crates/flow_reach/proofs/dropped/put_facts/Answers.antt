use Rattle.std.proofs.Common.{arith, subst, ◌∙◌, List, ℕ, ◌≡◌, ◌↔◌, ◌⊎◌, ◌+◌, ◌/◌, get_or, take}
use Rattle.std.proofs.lemmas.List.{take_all}
use Rattle.graph_form.proofs.Amongs.{among_at, among_more}
use Rattle.flow_reach.specs.Bits.{Has}
use Rattle.flow_reach.specs.Spread.{At}
use Rattle.flow_reach.proofs.Steps.{at_more, more, one_number, as_right}
use Rattle.flow_reach.proofs.Works.{put_set}
use Rattle.flow_reach.proofs.dropped.put_facts.Goals as goal

pub overflow_add-at : goal.overflow_add-at
overflow_add-at c = omega (arith, c.requires.room _ (among_at c.args.facts.now c.loop-fact.fact-index 0 c.loop-fact-test.true), c.requires.small)

pub put-requires : goal.put-requires
put-requires c = omega (arith, c.requires.room _ (among_at c.args.facts.now c.loop-fact.fact-index 0 c.loop-fact-test.true), c.loop-fact.invariant.room)

pub loop-fact-preserved : goal.loop-fact-preserved
loop-fact-preserved c =
    let i = c.loop-fact.invariant in
    let fact = get_or c.args.facts.now c.loop-fact.fact-index 0 in
    record {
      room = c.put.ensures.room ∙ i.room;
      has = λ k.
          more _ _ _ _ _ _
          (as_right _ _ _ _ (put_set _ _ ((c.args.base + fact) / 64) c.one.result c.put.ensures.there c.put.ensures.others k) (one_number (c.args.base + fact) c.one.result k c.one.ensures))
          (i.has k)
          (at_more c.args.base _ _ fact k (among_more c.args.facts.now c.loop-fact.fact-index 0 c.loop-fact-test.true));
    }

pub returns-clause-has : goal.returns-clause-has
returns-clause-has c k =
    let whole : take c.loop-fact.fact-index c.args.facts.now ≡ c.args.facts.now = take_all c.loop-fact.fact-index c.args.facts.now c.loop-fact-test.false in
    let P : List ℕ → Type 0 = λ fs. Has c.loop-fact.set.items k ↔ (Has c.args.set.now.items k ⊎ At c.args.base fs k) in
    subst P whole (c.loop-fact.invariant.has k)
