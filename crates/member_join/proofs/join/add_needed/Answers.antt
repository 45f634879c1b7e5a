use Rattle.std.proofs.Common.{subst}
use Rattle.node_match.proofs.Sets.{pushed, adds_as}
use Rattle.member_join.specs.declared.state.State.{State}
use Rattle.member_join.specs.Joins.{IsNeeded}
use Rattle.member_join.proofs.join.add_needed.Goals as goal

pub returns-in_ok-push : goal.returns-in_ok-push
returns-in_ok-push c =
    let needed = c.is_needed.ensures.0 c.if-is_needed.true in
    let P : State → Type 0 = λ s. IsNeeded c.args.later.now s in
    adds_as _ _ _ _ (pushed _ _ _ c.in_ok-push.ensures.items) (λ x. (λ e. (e, subst P e needed), λ p. p.0))
