use Rattle.node_pool.specs.Spots.{seen}
use Rattle.point_nodes.proofs.Parts.{flat_more}
use Rattle.assignments.specs.Declarators.{id_of}
use Rattle.assignments.proofs.declarator.add_ids.Goals as goal

pub loop-node-preserved : goal.loop-node-preserved
loop-node-preserved c = flat_more seen id_of c.args.nodes.now c.loop-node.node-index c.node-item.result _ _ _ c.loop-node-test.true c.node-item.is c.loop-node.invariant c.in_ok-add_id.ensures
