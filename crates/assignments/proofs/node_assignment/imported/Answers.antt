use Rattle.node_pool.specs.Spots.{seen}
use Rattle.assignments.specs.Assignments.{unnamed}
use Rattle.assignments.proofs.Loops.{all_more}
use Rattle.assignments.proofs.node_assignment.imported.Goals as goal

pub loop-one-preserved : goal.loop-one-preserved
loop-one-preserved c =
    all_more seen unnamed c.args.dotted.now c.loop-one.one-index c.one-item.result _ _ c.loop-one-test.true c.one-item.is c.loop-one.invariant c.in_ok-add_unnamed.ensures
