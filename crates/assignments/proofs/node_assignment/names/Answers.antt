use Rattle.node_pool.specs.Spots.{seen}
use Rattle.assignments.specs.declared.assignment.Reach.TheVariants.{Whole}
use Rattle.assignments.specs.Targets.{targets}
use Rattle.assignments.proofs.Loops.{all_more}
use Rattle.assignments.proofs.node_assignment.names.Goals as goal

pub loop-node-preserved : goal.loop-node-preserved
loop-node-preserved c =
    all_more seen (targets Whole) c.args.nodes.now c.loop-node.node-index c.node-item.result _ _ c.loop-node-test.true c.node-item.is c.loop-node.invariant c.in_ok-add_targets.ensures
