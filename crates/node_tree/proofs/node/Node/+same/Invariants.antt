use Rattle.std.proofs.Common.{◌≡◌, take}
use Rattle.node_tree.proofs.node.Node.+same.Given as goal

abbrev pub decreases-same : goal.decreases-same
decreases-same l = goal.size-same l

abbrev pub invariant-loop-i : goal.invariant-loop-i
invariant-loop-i l = take l.i l.kids ≡ take l.i l.others
