use Rattle.std.proofs.Common.{arith}
use Rattle.flow_graph.proofs.Orders.{absent_end, absent_there}
use Rattle.flow_graph.proofs.arrange.place_of.Goals as goal

pub returns-then-low-numbers : goal.returns-then-low-numbers
returns-then-low-numbers c = absent_end c.args.numbers.now c.loop-low.low c.args.number c.loop-low.invariant.below c.if-low-numbers.true

pub returns-then-numbers-low : goal.returns-then-numbers-low
returns-then-numbers-low c =
    let i = c.loop-low.invariant in
    absent_there c.args.numbers.now c.loop-low.low c.args.number c.requires i.below (λ k ge lt. i.above k (omega (arith, ge, c.loop-low-test.false)) lt) c.if-numbers-low.true
