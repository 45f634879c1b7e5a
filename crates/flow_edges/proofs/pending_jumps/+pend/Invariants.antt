use Rattle.std.proofs.Common.{◌≡◌, ◌+◌, ◌*◌, ◌++◌, take}
use Rattle.std.specs.List.{flat_map}
use Rattle.flow_edges.specs.Flow.{pending}
use Rattle.flow_edges.proofs.pending_jumps.+pend.Given as goal

abbrev pub decreases-pend : goal.decreases-pend
decreases-pend l = 6 * l.depth

abbrev pub decreases-pend_over : goal.decreases-pend_over
decreases-pend_over l = 6 * l.depth + 5

abbrev pub decreases-pend_loop : goal.decreases-pend_loop
decreases-pend_loop l = 6 * l.depth + 2

abbrev pub decreases-pend_try : goal.decreases-pend_try
decreases-pend_try l = 6 * l.depth + 4

abbrev pub decreases-pend_inside : goal.decreases-pend_inside
decreases-pend_inside l = 6 * l.depth + 3

abbrev pub decreases-pend_each : goal.decreases-pend_each
decreases-pend_each l = 6 * l.depth + 1

abbrev pub invariant-pend_each-loop-statement : goal.invariant-pend_each-loop-statement
invariant-pend_each-loop-statement l = l.routes ≡ l.initial.routes ++ flat_map (pending l.depth l.around) (take l.statement-index l.statements)

abbrev pub decreases-pend_part : goal.decreases-pend_part
decreases-pend_part l = 6 * l.depth + 2

abbrev pub decreases-pend_handlers : goal.decreases-pend_handlers
decreases-pend_handlers l = 6 * l.depth + 2
