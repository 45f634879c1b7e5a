use Rattle.node_pool.specs.Spots.{seen}
use Rattle.point_nodes.proofs.Parts.{flat_more}
use Rattle.assignments.specs.Declarators.{declared}
use Rattle.assignments.proofs.declarator.add_all_declared.Goals as goal

pub loop-declarator-preserved : goal.loop-declarator-preserved
loop-declarator-preserved c = flat_more seen declared c.args.declarators.now c.loop-declarator.declarator-index c.declarator-item.result _ _ _ c.loop-declarator-test.true c.declarator-item.is c.loop-declarator.invariant c.in_ok-add_declared.ensures
