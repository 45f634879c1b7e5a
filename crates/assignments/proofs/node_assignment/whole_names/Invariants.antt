use Rattle.std.proofs.Common.{◌≡◌, take}
use Rattle.node_pool.specs.Spots.{all_seen}
use Rattle.assignments.specs.Seen.{all_targets}
use Rattle.assignments.specs.Assignments.{whole_names}
use Rattle.assignments.proofs.node_assignment.whole_names.Given as goal

abbrev pub invariant-loop-node : goal.invariant-loop-node
invariant-loop-node l = all_targets l.names ≡ whole_names (all_seen (take l.node-index l.nodes))
