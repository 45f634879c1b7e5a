use Rattle.std.proofs.Common.{◌≡◌, ◌+◌, take, length}
use Rattle.node_tree.specs.Tree.{pre_all}
use Rattle.node_tree.proofs.node.Node.+count.Given as goal

abbrev pub invariant-loop-kid : goal.invariant-loop-kid
invariant-loop-kid l = l.count ≡ 1 + length (pre_all (take l.kid-index l.kid-items))
