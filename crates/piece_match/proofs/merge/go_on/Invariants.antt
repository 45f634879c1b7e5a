use Rattle.std.proofs.Common.{◌⊎◌, ◌↔◌, ◌+◌, length}
use Rattle.node_match.specs.Sets.{Among}
use Rattle.tree_match.specs.Members.{Member}
use Rattle.piece_match.specs.Merging.{CanGoOn}
use Rattle.piece_match.proofs.merge.go_on.Given as goal

abbrev pub decreases-loop-right : goal.decreases-loop-right
decreases-loop-right l = length l.left + length l.right

abbrev pub invariant-loop-right : goal.invariant-loop-right
invariant-loop-right l = record {
  can : CanGoOn l.done l.left l.right;
  same : (m : Member) → (Among l.done m ⊎ (Among l.left m ⊎ Among l.right m)) ↔ (Among l.fn.done m ⊎ (Among l.fn.left m ⊎ Among l.fn.right m));
}
