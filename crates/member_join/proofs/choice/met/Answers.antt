use Rattle.node_match.proofs.Sets.{gathered, gathered_all}
use Rattle.member_join.specs.Operands.{IsGivenBy}
use Rattle.sorted_sets.proofs.Searches.{any_step, any_end}
use Rattle.member_join.proofs.Added.{if_ok_same}
use Rattle.member_join.proofs.choice.met.Goals as goal

pub loop-state-preserved : goal.loop-state-preserved
loop-state-preserved c m = gathered _ _ _ _ _ _ (c.in_ok-add_met.ensures m) (any_step (IsGivenBy m) _ _ _ c.loop-state-test.true c.state-item.is) (c.loop-state.invariant m)

pub returns : goal.returns
returns c = if_ok_same (λ v. v.items) _ _ _ c.settled.ensures.same (λ m. gathered_all _ _ _ (any_end (IsGivenBy m) _ _ c.loop-state-test.false) (c.loop-state.invariant m))
