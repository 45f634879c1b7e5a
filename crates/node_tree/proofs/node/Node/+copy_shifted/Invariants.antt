use Rattle.std.proofs.Common.{◌≡◌, take, map}
use Rattle.node_tree.specs.Shifts.{shifted}
use Rattle.node_tree.proofs.node.Node.+copy_shifted.Given as goal

abbrev pub invariant-loop-kid : goal.invariant-loop-kid
invariant-loop-kid l = l.kids ≡ map (shifted l.shift) (take l.kid-index l.kid-items)
