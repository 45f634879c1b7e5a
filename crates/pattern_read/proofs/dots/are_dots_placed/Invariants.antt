use Rattle.std.proofs.Common.{◌≡◌, ◌↔◌, false}
use Rattle.std.specs.Prelude.{All}
use Rattle.node_tree.specs.Tree.{pre_of}
use Rattle.pattern_read.specs.Dots.{misplaces_dots}
use Rattle.pattern_read.proofs.dots.are_dots_placed.Given as goal

abbrev pub invariant-loop-node : goal.invariant-loop-node
invariant-loop-node l = All (λ n. misplaces_dots n ≡ false) (pre_of l.tree) ↔ All (λ n. misplaces_dots n ≡ false) l.node-iterator
