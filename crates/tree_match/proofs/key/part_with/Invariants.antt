use Rattle.node_match.specs.Free.{parts_of}
use Rattle.tree_match.specs.Same.{PassBefore}
use Rattle.tree_match.proofs.key.part_with.Given as goal

abbrev pub invariant-loop-at : goal.invariant-loop-at
invariant-loop-at l = PassBefore l.at (parts_of l.pattern)
