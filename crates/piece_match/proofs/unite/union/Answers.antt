use Rattle.piece_match.proofs.Standing.{leaf_still}
use Rattle.piece_match.proofs.Unions.{placed_step}
use Rattle.piece_match.proofs.unite.union.Goals as goal

pub loop-leaf-preserved : goal.loop-leaf-preserved
loop-leaf-preserved c =
    placed_step c.loop-leaf.placed _ c.as_slice-leaf-items.result.now c.loop-leaf.leaf-index _ c.leaf-item.result c.loop-leaf-test.true c.leaf-item.is (leaf_still c.leaf-item.result) c.in_ok-push.ensures.ok c.loop-leaf.invariant
