use Rattle.std.proofs.Common.{◌≡◌, ◌+◌, ◌-◌, ◌*◌, length, take, map}
use Rattle.node_tree.specs.Numbers.{siblings}
use Rattle.node_tree.specs.Tree.{pre_all}
use Rattle.flow_graph.specs.Outline.{outlined}
use Rattle.flow_graph.proofs.outline.+outline.Given as goal

abbrev pub decreases-outline : goal.decreases-outline
decreases-outline l = 2 * l.depth

abbrev pub decreases-outline_each : goal.decreases-outline_each
decreases-outline_each l = 2 * l.depth + 1

abbrev pub invariant-outline_each-loop-place : goal.invariant-outline_each-loop-place
invariant-outline_each-loop-place l = record {
  next : l.next ≡ l.at + length (pre_all (take (l.place - 1) l.nodes));
  statements : l.statements ≡ map (outlined l.labels l.exit l.depth) (siblings l.at (take l.place l.nodes));
}
