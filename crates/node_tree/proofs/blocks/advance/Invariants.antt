use Rattle.std.proofs.Common.{◌≡◌}
use Rattle.node_tree.specs.Blocks.{blocks_in}
use Rattle.node_tree.proofs.blocks.advance.Given as goal

abbrev pub invariant-loop-node : goal.invariant-loop-node
invariant-loop-node l =
    (goal.iterator-loop-node).can_next l.walk × (goal.iterator-loop-node).is_finite l.walk × (blocks_in l.initial.walk ≡ blocks_in l.walk)
