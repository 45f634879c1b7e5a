use Rattle.std.proofs.Common.{[]}
use Rattle.node_tree.specs.Numbers.{pre_at}
use Rattle.node_pool.specs.Spots.{seen}
use Rattle.point_nodes.proofs.Parts.{flat_more}
use Rattle.point_nodes.proofs.belonging.nodes.Goals as goal

pub loop-top-preserved : goal.loop-top-preserved
loop-top-preserved c =
    flat_more seen pre_at c.as_slice-top-items.result.now c.loop-top.top-index c.top-item.result [] _ _ c.loop-top-test.true c.top-item.is c.loop-top.invariant c.in_ok-add_tree.ensures
