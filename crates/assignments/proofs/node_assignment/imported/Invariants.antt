use Rattle.std.proofs.Common.{◌≡◌, take}
use Rattle.std.specs.List.{flat_map}
use Rattle.node_pool.specs.Spots.{all_seen}
use Rattle.assignments.specs.Seen.{all_targets}
use Rattle.assignments.specs.Assignments.{unnamed}
use Rattle.assignments.proofs.node_assignment.imported.Given as goal

abbrev pub invariant-loop-one : goal.invariant-loop-one
invariant-loop-one l = all_targets l.targets ≡ flat_map unnamed (all_seen (take l.one-index l.dotted))
