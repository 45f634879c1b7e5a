use Rattle.std.proofs.Common.{length}
use Rattle.sorted_sets.proofs.Settling.{Settling}
use Rattle.sorted_sets.proofs.order.settled.Given as goal

abbrev pub invariant-loop-item : goal.invariant-loop-item
invariant-loop-item g l = Settling g.T.Ordered.before g.met.T.Ordered.total g.met.T.Ordered.apart l.fn.items.items l.items.items l.out.items

abbrev pub decreases-loop-item : goal.decreases-loop-item
decreases-loop-item g l = length l.items.items
