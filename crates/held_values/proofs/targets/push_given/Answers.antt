use Rattle.std.proofs.Common.{◌≡◌, ◌⊎◌, ◌↔◌, List, Some, sym, ◌∙◌, ap, subst}
use Rattle.graph_form.specs.Sets.{Among}
use Rattle.graph_form.proofs.Amongs.{among_push}
use Rattle.flow_reach.proofs.Steps.{as_right}
use Rattle.held_values.specs.declared.targets.Target.{Target}
use Rattle.held_values.proofs.Concerns.{some_same}
use Rattle.held_values.proofs.targets.push_given.Goals as goal

pub returns-in_ok-push : goal.returns-in_ok-push
returns-in_ok-push c target =
    let old = c.args.targets.now.items in
    let one = c.in-Some.target in
    let P : List Target → Type 0 = λ ts. Among ts target ↔ (Among old target ⊎ (one ≡ target)) in
    as_right _ _ _ _ (subst P (sym c.in_ok-push.ensures.items) (among_push old one target)) (
      λ e. (c.given.ensures target).0 (c.in-Some.is ∙ ap Some e),
      λ g. some_same one target (sym c.in-Some.is ∙ (c.given.ensures target).1 g),
    )
