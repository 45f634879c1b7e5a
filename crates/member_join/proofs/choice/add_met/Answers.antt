use Rattle.std.proofs.Common.{List, ap, sym, ◌∙◌}
use Rattle.meta_bind.specs.declared.bound.Bound.{Bound}
use Rattle.tree_match.specs.Members.{Member}
use Rattle.node_match.proofs.Sets.{pushed, adds_as}
use Rattle.member_join.proofs.choice.add_met.Goals as goal

pub returns-in_ok-push : goal.returns-in_ok-push
returns-in_ok-push c =
    let g : List Bound → Member = λ b. (c.args.state.now.range, b) in
    let same = ap g c.in_ok-extend.ensures in
    adds_as _ _ _ _ (pushed _ _ _ c.in_ok-push.ensures.items) (λ m. (λ e. (c.if-state.true, sym same ∙ e), λ p. same ∙ p.1))
