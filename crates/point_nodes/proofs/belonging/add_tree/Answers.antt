use Rattle.std.proofs.Common.{arith}
use Rattle.node_pool.specs.Spots.{seen, all_seen}
use Rattle.point_nodes.proofs.Trees.{tree_more, tree_done}
use Rattle.point_nodes.proofs.belonging.add_tree.Goals as goal

pub loop-further-preserved : goal.loop-further-preserved
loop-further-preserved c =
    tree_more (seen c.args.top) c.below.result c.loop-further.further (all_seen c.args.into.now) _ _ (omega (arith, c.size-further-end.ensures.size, c.loop-further-test.true)) c.below.ensures c.loop-further.invariant c.in_ok-push.ensures.ok

pub returns : goal.returns
returns c = tree_done (seen c.args.top) c.loop-further.further (all_seen c.args.into.now) _ (omega (arith, c.size-further-end.ensures.size, c.loop-further-test.false)) c.loop-further.invariant
