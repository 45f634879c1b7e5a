use Rattle.std.proofs.Common.{◌≡◌, take, false}
use Rattle.std.specs.List.{flat_map}
use Rattle.node_pool.specs.Spots.{all_seen}
use Rattle.assignments.specs.Seen.{all_assignments}
use Rattle.assignments.specs.Assignments.{assigned_in}
use Rattle.assignments.proofs.point_assignments.assignments.Given as goal

abbrev pub invariant-loop-top : goal.invariant-loop-top
invariant-loop-top l = all_assignments l.list ≡ flat_map (assigned_in false) (all_seen (take l.top-index l.top-items))
