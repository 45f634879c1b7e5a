use Rattle.std.proofs.Common.{◌≡◌, ◌++◌, take}
use Rattle.std.specs.List.{flat_map}
use Rattle.node_tree.specs.Numbers.{count_of}
use Rattle.node_pool.specs.Spots.{all_seen}
use Rattle.assignments.specs.Declarators.{signature}
use Rattle.assignments.proofs.declarator.+add_signature.Given as goal

abbrev pub decreases-add_signature : goal.decreases-add_signature
decreases-add_signature l = count_of l.declarator.node.now

abbrev pub invariant-loop-kid : goal.invariant-loop-kid
invariant-loop-kid l = all_seen l.into ≡ all_seen l.initial.into ++ flat_map signature (all_seen (take l.kid-index l.kid-items))
