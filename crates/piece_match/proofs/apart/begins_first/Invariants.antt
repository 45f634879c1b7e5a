use Rattle.std.proofs.Common.{◌≡◌}
use Rattle.std.specs.Prelude.{nat_le}
use Rattle.std.specs.List.{list_all}
use Rattle.node_tree.specs.declared.node.Node.{Node}
use Rattle.node_tree.specs.Tree.{span_of}
use Rattle.piece_match.specs.Pieces.{begins_first}
use Rattle.piece_match.proofs.apart.begins_first.Given as goal

abbrev pub invariant-loop-node : goal.invariant-loop-node
invariant-loop-node l = list_all (λ (m : Node). nat_le (span_of l.tree).from (span_of m).from) l.node-iterator ≡ begins_first l.tree
