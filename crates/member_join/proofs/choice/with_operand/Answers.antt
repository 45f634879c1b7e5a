use Rattle.std.proofs.Common.{inl, [], ◌∷◌}
use Rattle.member_join.specs.declared.state.State.{State}
use Rattle.member_join.specs.Joins.{IsJoined, IsNeeded}
use Rattle.member_join.specs.Operands.{WithBytes}
use Rattle.member_join.proofs.Counts.{at_most, more_than, few_exact, few_set, many_fault}
use Rattle.member_join.proofs.choice.with_operand.Goals as goal

pub returns-clause-exact : goal.returns-clause-exact
returns-clause-exact c =
    few_exact (λ v. v.items) _ _ c.few.ensures.few (λ (s : State). IsJoined c.args.role c.args.states.now c.args.operand.now.members.now s × IsNeeded c.args.later.now s)
    (λ few s. (λ a. c.in_ok-next.ensures.sound s a, λ h. c.in_ok-next.ensures.whole few s h.0 h.1))

pub returns-clause-few : goal.returns-clause-few
returns-clause-few c =
    few_set (λ v. v.items) c.in_ok-next.next.items _ c.few.ensures.few (c.args.operand.now.number ∷ []) (WithBytes (IsJoined c.args.role c.args.states.now c.args.operand.now.members.now))
    (λ few. at_most (IsJoined c.args.role c.args.states.now c.args.operand.now.members.now) _ (λ s p b. c.in_ok-next.ensures.whole few s p (inl b)) few)

pub returns-clause-crowded : goal.returns-clause-crowded
returns-clause-crowded c =
    many_fault (λ v. v.items) c.in_ok-next.next.items _ c.args.operand.now.number (WithBytes (IsJoined c.args.role c.args.states.now c.args.operand.now.members.now)) c.few.ensures.named c.few.ensures.many
    (λ many. more_than (IsJoined c.args.role c.args.states.now c.args.operand.now.members.now) _ c.in_ok-next.ensures.ordered (λ s h. (c.in_ok-next.ensures.sound s h).0) many)
