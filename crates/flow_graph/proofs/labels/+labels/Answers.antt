use Rattle.std.proofs.Common.{◌≡◌, ℕ, suc, ◌+◌, ◌-◌, length, take, subst, arith}
use Rattle.node_tree.specs.Tree.{pre_all}
use Rattle.node_tree.specs.Numbers.{Numbered}
use Rattle.flow_graph.specs.Outline.{labels_in}
use Rattle.flow_graph.proofs.Outlines.{next_more, flat_more, labels_down}
use Rattle.flow_graph.proofs.labels.+labels.Goals as goal

pub gather-returns : goal.gather-returns
gather-returns t c =
    let s : Numbered = record { at = c.args.at; node = c.args.node.now } in
    labels_down (c.args.depth - 1) c.args.depth s _ _ _ _ (omega arith) c.in_ok-add_label.ensures (c.in_ok-gather_each.ensures) c.in_ok-parts.ensures

pub gather_each-loop-place-preserved : goal.gather_each-loop-place-preserved
gather_each-loop-place-preserved t c =
    let i = c.loop-place.invariant in
    let next = c.in_ok-next.ensures c.args.at i.next in
    let P : ℕ → Type 0 = λ k. c.in_ok-next.next ≡ c.args.at + length (pre_all (take k c.args.nodes.now)) in
    let same : c.loop-place.place ≡ c.loop-place.place + 1 - 1 = omega arith in
    record {
      next = subst P same next;
      labels = flat_more (labels_in c.args.depth) c.args.at c.in_ok-next.next c.args.nodes.now c.loop-place.place c.index-nodes-place.result _ _ _ c.loop-place-test.true c.index-nodes-place.is next i.labels c.in_ok-gather.ensures;
    }
