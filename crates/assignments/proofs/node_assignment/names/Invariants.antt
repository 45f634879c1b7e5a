use Rattle.std.proofs.Common.{◌≡◌, take}
use Rattle.node_pool.specs.Spots.{all_seen}
use Rattle.assignments.specs.Seen.{all_targets}
use Rattle.assignments.specs.Assignments.{names_in}
use Rattle.assignments.proofs.node_assignment.names.Given as goal

abbrev pub invariant-loop-node : goal.invariant-loop-node
invariant-loop-node l = all_targets l.names ≡ names_in (all_seen (take l.node-index l.nodes))
