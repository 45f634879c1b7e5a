use Rattle.node_pool.specs.Spots.{seen}
use Rattle.assignments.proofs.Loops.{pushed_more}
use Rattle.assignments.proofs.declarator.add_all.Goals as goal

pub loop-node-preserved : goal.loop-node-preserved
loop-node-preserved c = pushed_more seen c.args.nodes.now c.loop-node.node-index c.node-item.result _ _ _ c.loop-node-test.true c.node-item.is c.loop-node.invariant c.in_ok-push.ensures.ok
