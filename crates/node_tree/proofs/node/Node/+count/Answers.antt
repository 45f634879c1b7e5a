use Rattle.std.proofs.Common.{arith, ap, length, length-append}
use Rattle.node_tree.specs.declared.node.Node.{Node}
use Rattle.node_tree.proofs.Counts.{trees_more, count_done}
use Rattle.node_tree.proofs.node.Node.+count.Goals as goal

pub returns : goal.returns
returns t c = count_done _ _ _ _ c.as_slice-kid-items.ensures c.loop-kid-test.false c.loop-kid.invariant

pub loop-kid-preserved : goal.loop-kid-preserved
loop-kid-preserved t c =
    omega (arith, c.loop-kid.invariant, c.in_ok-count.ensures, ap length (trees_more c.as_slice-kid-items.result.now c.loop-kid.kid-index c.kid-item.result c.loop-kid-test.true c.kid-item.is), length-append {A = Node})
