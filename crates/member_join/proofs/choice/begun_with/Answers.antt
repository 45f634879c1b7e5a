use Rattle.std.proofs.Common.{inl, [], ◌∷◌}
use Rattle.member_join.specs.declared.state.State.{State}
use Rattle.member_join.specs.Joins.{IsNeeded}
use Rattle.member_join.specs.Operands.{IsBegun, WithBytes}
use Rattle.member_join.proofs.Counts.{at_most, more_than, few_exact, few_set, many_fault}
use Rattle.member_join.proofs.choice.begun_with.Goals as goal

pub returns-clause-exact : goal.returns-clause-exact
returns-clause-exact c =
    few_exact (λ v. v.items) _ _ c.few.ensures.few (λ (s : State). IsBegun c.args.operand.now.members.now s × IsNeeded c.args.later.now s) (λ few s. c.in_ok-begin.ensures.exact s)

pub returns-clause-few : goal.returns-clause-few
returns-clause-few c =
    few_set (λ v. v.items) c.in_ok-begin.field-0.items _ c.few.ensures.few (c.args.operand.now.number ∷ []) (WithBytes (IsBegun c.args.operand.now.members.now))
    (λ few. at_most (IsBegun c.args.operand.now.members.now) _ (λ s p b. (c.in_ok-begin.ensures.exact s).1 (p, inl b)) few)

pub returns-clause-crowded : goal.returns-clause-crowded
returns-clause-crowded c =
    many_fault (λ v. v.items) c.in_ok-begin.field-0.items _ c.args.operand.now.number (WithBytes (IsBegun c.args.operand.now.members.now)) c.few.ensures.named c.few.ensures.many
    (λ many. more_than (IsBegun c.args.operand.now.members.now) _ c.in_ok-begin.ensures.ordered (λ s h. ((c.in_ok-begin.ensures.exact s).0 h).0) many)
