use Rattle.flow_graph.proofs.Outlines.{next_more}
use Rattle.flow_graph.proofs.parts.behind.Goals as goal

pub loop-node-preserved : goal.loop-node-preserved
loop-node-preserved c = next_more c.args.at c.loop-node.end _ c.args.nodes.now c.loop-node.node-index c.node-item.result c.loop-node-test.true c.node-item.is c.loop-node.invariant c.in_ok-end.ensures
