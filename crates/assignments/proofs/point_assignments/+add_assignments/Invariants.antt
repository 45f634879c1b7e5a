use Rattle.std.proofs.Common.{◌≡◌, ◌++◌, take}
use Rattle.std.specs.List.{flat_map}
use Rattle.node_tree.specs.Numbers.{count_of}
use Rattle.node_pool.specs.Spots.{all_seen}
use Rattle.assignments.specs.Seen.{all_assignments}
use Rattle.assignments.specs.Assignments.{assigned_in}
use Rattle.assignments.proofs.point_assignments.+add_assignments.Given as goal

abbrev pub decreases-add_assignments : goal.decreases-add_assignments
decreases-add_assignments l = count_of l.node.node.now

abbrev pub invariant-loop-kid : goal.invariant-loop-kid
invariant-loop-kid l = all_assignments l.into ≡ all_assignments l.initial.into ++ flat_map (assigned_in l.below) (all_seen (take l.kid-index l.kid-items))
