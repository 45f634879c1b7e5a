use Rattle.std.proofs.Common.{◌≡◌, ℕ, suc, ◌+◌, ◌-◌, ◌++◌, ◌∷◌, [], length, take, ◌∙◌, ap, subst, arith}
use Rattle.node_tree.specs.Tree.{pre_all}
use Rattle.flow_graph.specs.Outline.{outlined}
use Rattle.flow_graph.proofs.Outlines.{next_more, mapped_more, outlined_down}
use Rattle.flow_graph.proofs.outline.+outline.Goals as goal

pub outline-returns : goal.outline-returns
outline-returns t c =
    outlined_down c.args.labels.now c.args.exit (c.args.depth - 1) c.args.depth (record { at = c.args.at; node = c.args.node.now }) c.form_of.result c.in_ok-target.target c.in_ok-kids.kids _ (omega arith) c.form_of.ensures c.in_ok-target.ensures c.in_ok-kids.ensures c.in_ok-parts.ensures

pub outline_each-loop-place-preserved : goal.outline_each-loop-place-preserved
outline_each-loop-place-preserved t c =
    let i = c.loop-place.invariant in
    let F = outlined c.args.labels.now c.args.exit c.args.depth in
    let next = c.in_ok-next.ensures c.args.at i.next in
    let P : ℕ → Type 0 = λ k. c.in_ok-next.next ≡ c.args.at + length (pre_all (take k c.args.nodes.now)) in
    let same : c.loop-place.place ≡ c.loop-place.place + 1 - 1 = omega arith in
    record {
      next = subst P same next;
      statements = mapped_more F c.args.at c.in_ok-next.next c.args.nodes.now c.loop-place.place c.index-nodes-place.result c.loop-place.statements _ c.loop-place-test.true c.index-nodes-place.is next i.statements (c.in_ok-push.ensures.ok ∙ ap (λ x. c.loop-place.statements ++ x ∷ []) c.in_ok-outline.ensures);
    }
