use Rattle.std.proofs.Common.{◌≡◌, ◌++◌, take}
use Rattle.std.specs.List.{flat_map}
use Rattle.node_tree.specs.Numbers.{count_of}
use Rattle.node_pool.specs.Spots.{all_seen}
use Rattle.assignments.specs.Seen.{all_targets}
use Rattle.assignments.specs.Targets.{targets, below}
use Rattle.assignments.proofs.target_names.+add_targets.Given as goal

abbrev pub decreases-add_targets : goal.decreases-add_targets
decreases-add_targets l = count_of l.spot.node.now

abbrev pub invariant-loop-kid : goal.invariant-loop-kid
invariant-loop-kid l = all_targets l.into ≡ all_targets l.initial.into ++ flat_map (targets (below l.kind)) (all_seen (take l.kid-index l.kid-items))
