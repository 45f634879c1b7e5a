use Rattle.std.proofs.Common.{◌≡◌, ◌+◌, ◌-◌, ◌*◌, ◌++◌, length, take}
use Rattle.std.specs.List.{flat_map}
use Rattle.node_tree.specs.Numbers.{siblings}
use Rattle.node_tree.specs.Tree.{pre_all}
use Rattle.flow_graph.specs.Outline.{labels_in}
use Rattle.flow_graph.proofs.labels.+labels.Given as goal

abbrev pub decreases-gather : goal.decreases-gather
decreases-gather l = 2 * l.depth

abbrev pub decreases-gather_each : goal.decreases-gather_each
decreases-gather_each l = 2 * l.depth + 1

abbrev pub invariant-gather_each-loop-place : goal.invariant-gather_each-loop-place
invariant-gather_each-loop-place l = record {
  next : l.next ≡ l.at + length (pre_all (take (l.place - 1) l.nodes));
  labels : l.labels ≡ l.initial.labels ++ flat_map (labels_in l.depth) (siblings l.at (take l.place l.nodes));
}
