use Rattle.std.proofs.Common.{rules}
use Rattle.std.proofs.lemmas.List.Sorted.{answers_always}
use Rattle.sorted_sets.proofs.Settling.{settle_start, settle_step, weak, later_first}
use Rattle.sorted_sets.proofs.order.settled.Goals as goal

pub loop-item-init : goal.loop-item-init
loop-item-init g c =
    settle_start g.T.Ordered.before g.met.T.Ordered.total g.met.T.Ordered.apart _ _ _ c.sort_by.ensures.permutation
    (c.in_ok-sort_by.ensures.sorted (later_first g.T.Ordered.before g.met.T.Ordered.total g.met.T.Ordered.apart) (weak g.T.Ordered.before g.met.T.Ordered.total g.met.T.Ordered.apart) (answers_always _ _ _ (λ f a r k h. search rules)))
    c.new-out.ensures.items

pub loop-item-preserved : goal.loop-item-preserved
loop-item-preserved g c =
    settle_step g.T.Ordered.before g.met.T.Ordered.total g.met.T.Ordered.apart _ c.loop-item.items.items c.pop.new.self.items _ _ c.in-Some.item c.in-Some.ensures.items c.loop-item.invariant c.in_ok-add_last.ensures
