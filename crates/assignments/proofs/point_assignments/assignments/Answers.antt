use Rattle.std.proofs.Common.{false}
use Rattle.node_pool.specs.Spots.{seen}
use Rattle.assignments.specs.Assignments.{assigned_in}
use Rattle.assignments.proofs.Loops.{all_more}
use Rattle.assignments.proofs.point_assignments.assignments.Goals as goal

pub loop-top-preserved : goal.loop-top-preserved
loop-top-preserved c =
    all_more seen (assigned_in false) c.as_slice-top-items.result.now c.loop-top.top-index c.top-item.result _ _ c.loop-top-test.true c.top-item.is c.loop-top.invariant c.in_ok-add_assignments.ensures
