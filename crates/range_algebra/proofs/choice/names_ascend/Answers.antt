use Rattle.std.proofs.Common.{List, subst}
use Rattle.tree_match.specs.declared.leaf.Leaf.{Leaf}
use Rattle.range_algebra.specs.Operands.{LeavesAscend}
use Rattle.range_algebra.proofs.Firsts.{first_more, first_all}
use Rattle.range_algebra.proofs.LeafNames.{LeafAscends}
use Rattle.range_algebra.proofs.choice.names_ascend.Goals as goal

pub loop-leaf-preserved : goal.loop-leaf-preserved
loop-leaf-preserved c = first_more LeafAscends _ _ _ c.loop-leaf-test.true c.leaf-item.is c.leaf_ascends.ensures c.loop-leaf.invariant

pub returns : goal.returns
returns c =
    let P : List Leaf → Type 0 = LeavesAscend in
    subst P c.as_slice-leaf-items.ensures (first_all LeafAscends _ _ c.loop-leaf-test.false (λ m h. elim h [ ]) c.loop-leaf.invariant)
