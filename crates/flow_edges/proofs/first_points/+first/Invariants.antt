use Rattle.std.proofs.Common.{◌≡◌, ◌≤◌, ◌+◌, ◌*◌, drop, length}
use Rattle.flow_edges.specs.Flow.{first, firsts}
use Rattle.flow_edges.proofs.first_points.+first.Given as goal

abbrev pub decreases-first_of : goal.decreases-first_of
decreases-first_of l = 3 * l.depth

abbrev pub decreases-first_over : goal.decreases-first_over
decreases-first_over l = 3 * l.depth + 2

abbrev pub decreases-firsts_of : goal.decreases-firsts_of
decreases-firsts_of l = 3 * l.depth + 1

abbrev pub invariant-firsts_of-loop-left : goal.invariant-firsts_of-loop-left
invariant-firsts_of-loop-left l = record {
  within : l.left ≤ length l.statements;
  points : l.points ≡ firsts (first l.depth) (drop l.left l.statements) l.next;
}

abbrev pub decreases-firsts_of-loop-left : goal.decreases-firsts_of-loop-left
decreases-firsts_of-loop-left l = l.left
