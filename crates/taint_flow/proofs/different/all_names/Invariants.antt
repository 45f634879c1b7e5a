use Rattle.std.proofs.Common.{◌≡◌, ◌++◌, length}
use Rattle.std.specs.List.{flat_map}
use Rattle.node_tree.specs.Tree.{pre_of}
use Rattle.unit_names.specs.Seen.{all_words}
use Rattle.taint_flow.specs.Bounds.{words_at}
use Rattle.taint_flow.proofs.different.all_names.Given as goal

abbrev pub invariant-loop-node : goal.invariant-loop-node
invariant-loop-node l = flat_map words_at (pre_of l.root) ≡ all_words l.names ++ flat_map words_at l.walk

abbrev pub decreases-loop-node : goal.decreases-loop-node
decreases-loop-node l = length l.walk
