use Rattle.std.proofs.Common.{arith, ◌≡◌, ◌+◌, ◌-◌}
use Rattle.flow_graph.proofs.Orders.{settle_first, settle_more, settle_same}
use Rattle.flow_graph.proofs.arrange.add_number.Goals as goal

pub returns-then-at-eq0 : goal.returns-then-at-eq0
returns-then-at-eq0 c = settle_first c.args.numbers.now c.args.at c.args.all.now.items _ c.requires.at c.requires.settles c.if-at-eq0.true c.in_ok-push.ensures.items

pub returns-then-numbers-at : goal.returns-then-numbers-at
returns-then-numbers-at c = let e : (c.args.at - 1) + 1 ≡ c.args.at = omega (arith, c.if-at-eq0.false) in settle_more c.args.numbers.now c.args.at (c.args.at - 1) c.args.all.now.items _ c.requires.stays c.requires.at e c.requires.settles c.if-numbers-at.true c.in_ok-push-2.ensures.items

pub returns : goal.returns
returns c = let e : (c.args.at - 1) + 1 ≡ c.args.at = omega (arith, c.if-at-eq0.false) in settle_same c.args.numbers.now c.args.at (c.args.at - 1) c.args.all.now.items c.requires.stays c.requires.at e c.requires.settles (λ lt. omega (arith, lt, c.if-numbers-at.false))
