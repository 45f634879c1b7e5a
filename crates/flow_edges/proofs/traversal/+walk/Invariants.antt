use Rattle.std.proofs.Common.{◌≡◌, ◌≤◌, ◌+◌, ◌*◌, drop, length}
use Rattle.flow_edges.specs.Flow.{first, firsts, InRow, InEach, Flow}
use Rattle.flow_edges.specs.Grows.{Adds}
use Rattle.flow_edges.proofs.traversal.+walk.Given as goal

abbrev pub decreases-walk : goal.decreases-walk
decreases-walk l = 5 * l.depth

abbrev pub decreases-walk_over : goal.decreases-walk_over
decreases-walk_over l = 5 * l.depth + 4

abbrev pub decreases-walk_if : goal.decreases-walk_if
decreases-walk_if l = 5 * l.depth + 2

abbrev pub decreases-walk_loop : goal.decreases-walk_loop
decreases-walk_loop l = 5 * l.depth + 2

abbrev pub decreases-walk_with : goal.decreases-walk_with
decreases-walk_with l = 5 * l.depth + 2

abbrev pub decreases-walk_row : goal.decreases-walk_row
decreases-walk_row l = 5 * l.depth + 1

abbrev pub invariant-walk_row-loop-left : goal.invariant-walk_row-loop-left
invariant-walk_row-loop-left l = record {
  within : l.left ≤ length l.statements;
  next : l.next ≡ firsts (first l.depth) (drop l.left l.statements) l.around.next;
  adds : Adds l.initial.out l.out (InRow (Flow l.depth) (first l.depth) l.around (drop l.left l.statements));
}

abbrev pub decreases-walk_row-loop-left : goal.decreases-walk_row-loop-left
decreases-walk_row-loop-left l = l.left

abbrev pub decreases-walk_do : goal.decreases-walk_do
decreases-walk_do l = 5 * l.depth + 2

abbrev pub decreases-walk_for : goal.decreases-walk_for
decreases-walk_for l = 5 * l.depth + 2

abbrev pub decreases-walk_switch : goal.decreases-walk_switch
decreases-walk_switch l = 5 * l.depth + 2

abbrev pub decreases-walk_try : goal.decreases-walk_try
decreases-walk_try l = 5 * l.depth + 3

abbrev pub decreases-walk_each : goal.decreases-walk_each
decreases-walk_each l = 5 * l.depth + 1

abbrev pub invariant-walk_each-loop-left : goal.invariant-walk_each-loop-left
invariant-walk_each-loop-left l = record {
  within : l.left ≤ length l.statements;
  adds : Adds l.initial.out l.out (InEach (Flow l.depth) l.around (drop l.left l.statements));
}

abbrev pub decreases-walk_each-loop-left : goal.decreases-walk_each-loop-left
decreases-walk_each-loop-left l = l.left

abbrev pub decreases-walk_part : goal.decreases-walk_part
decreases-walk_part l = 5 * l.depth + 2

abbrev pub decreases-walk_handlers : goal.decreases-walk_handlers
decreases-walk_handlers l = 5 * l.depth + 2
