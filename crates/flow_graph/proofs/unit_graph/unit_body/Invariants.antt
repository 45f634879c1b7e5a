use Rattle.std.proofs.Common.{◌≡◌, ◌≤◌, ◌-◌, length}
use Rattle.std.specs.Prelude.{slice_get}
use Rattle.node_tree.specs.Tree.{pre_of}
use Rattle.flow_graph.proofs.unit_graph.unit_body.Given as goal

abbrev pub invariant-loop-node : goal.invariant-loop-node
invariant-loop-node l = record {
  within : l.at ≤ l.unit;
  left : slice_get (pre_of l.root) l.unit ≡ slice_get l.walk (l.unit - l.at);
}

abbrev pub decreases-loop-node : goal.decreases-loop-node
decreases-loop-node l = length l.walk
