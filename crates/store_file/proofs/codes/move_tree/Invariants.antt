use Rattle.std.proofs.Common.{◌≡◌, ℕ, List, ◌++◌, length}
use Rattle.node_tree.specs.declared.node.Node.{Node}
use Rattle.tree_code.specs.Code.{tree_code}
use Rattle.store_file.proofs.Forests.{Left}
use Rattle.store_file.proofs.codes.move_tree.Given as goal

abbrev pub invariant-loop-nodes : goal.invariant-loop-nodes
invariant-loop-nodes l =
    (n : Node) (r : List ℕ) → l.initial.code.rest.now ≡ tree_code n ++ r → Left l.initial.code.rest.now l.initial.out l.nodes l.code.rest.now l.out n r

abbrev pub decreases-loop-nodes : goal.decreases-loop-nodes
decreases-loop-nodes l = length l.code.rest.now
