use Rattle.std.proofs.Common.{◌≡◌, ◌++◌, take}
use Rattle.std.specs.List.{flat_map}
use Rattle.node_tree.specs.Numbers.{count_of}
use Rattle.node_pool.specs.Spots.{all_seen}
use Rattle.assignments.specs.Declarators.{declared}
use Rattle.assignments.proofs.declarator.+add_declared.Given as goal

abbrev pub decreases-add_declared : goal.decreases-add_declared
decreases-add_declared l = count_of l.declarator.node.now

abbrev pub invariant-loop-kid : goal.invariant-loop-kid
invariant-loop-kid l = all_seen l.into ≡ all_seen l.initial.into ++ flat_map declared (all_seen (take l.kid-index l.kid-items))
