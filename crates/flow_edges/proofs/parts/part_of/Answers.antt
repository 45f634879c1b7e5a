use Rattle.std.proofs.Common.{◌≡◌, ◌-◌, take, drop, length, ap, sym, ◌∙◌, arith, ◌≤◌, ℕ}
use Rattle.flow_edges.proofs.Grown.{one_more, no_part}
use Rattle.flow_edges.proofs.parts.part_of.Goals as goal

pub returns-then-k-kids : goal.returns-then-k-kids
returns-then-k-kids c = ap (λ n. take n (drop c.args.k c.args.kids.now)) (one_more c.args.k)

pub returns-else-k-kids : goal.returns-else-k-kids
returns-else-k-kids c = no_part c.args.kids.now c.args.k c.if-k-kids.false
