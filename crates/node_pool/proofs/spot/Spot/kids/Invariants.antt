use Rattle.std.proofs.Common.{◌≡◌, ◌++◌, drop}
use Rattle.node_pool.specs.Preorder.{AreAt}
use Rattle.node_tree.specs.Numbers.{siblings, kids_at}
use Rattle.node_pool.specs.Spots.{seen, all_seen}
use Rattle.node_pool.proofs.spot.Spot.kids.Given as goal

abbrev pub invariant-loop-node : goal.invariant-loop-node
invariant-loop-node l = record {
  at : AreAt l.self.pool.now.nodes l.next (drop l.node-index l.node-items);
  kids : all_seen l.kids ++ siblings l.next (drop l.node-index l.node-items) ≡ kids_at (seen l.self);
}
