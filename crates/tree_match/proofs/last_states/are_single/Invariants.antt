use Rattle.std.proofs.Common.{drop}
use Rattle.node_match.specs.Free.{parts_of}
use Rattle.node_match.specs.Refused.{all_single}
use Rattle.tree_match.proofs.last_states.are_single.Given as goal

abbrev pub invariant-loop-at : goal.invariant-loop-at
invariant-loop-at l = all_single (drop l.at (parts_of l.pattern)) → all_single (drop l.from (parts_of l.pattern))
