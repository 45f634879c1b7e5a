use Rattle.std.proofs.Common.{◌≡◌, ◌+◌, length, take}
use Rattle.node_tree.specs.Tree.{pre_all}
use Rattle.flow_graph.proofs.parts.behind.Given as goal

abbrev pub invariant-loop-node : goal.invariant-loop-node
invariant-loop-node l = l.end ≡ l.at + length (pre_all (take l.node-index l.nodes))
