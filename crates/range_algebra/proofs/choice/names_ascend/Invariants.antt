use Rattle.range_algebra.proofs.LeafNames.{LeafAscends}
use Rattle.range_algebra.proofs.Firsts.{First}
use Rattle.range_algebra.proofs.choice.names_ascend.Given as goal

abbrev pub invariant-loop-leaf : goal.invariant-loop-leaf
invariant-loop-leaf l = First LeafAscends l.leaf-items l.leaf-index
