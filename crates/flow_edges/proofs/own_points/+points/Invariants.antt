use Rattle.std.proofs.Common.{◌≡◌, ◌+◌, ◌*◌, ◌++◌, take}
use Rattle.std.specs.List.{flat_map}
use Rattle.flow_edges.specs.Flow.{points}
use Rattle.flow_edges.specs.Grows.{AddsCases}
use Rattle.flow_edges.proofs.own_points.+points.Given as goal

abbrev pub decreases-points_of : goal.decreases-points_of
decreases-points_of l = 3 * l.depth

abbrev pub decreases-points_over : goal.decreases-points_over
decreases-points_over l = 3 * l.depth + 2

abbrev pub decreases-points_each : goal.decreases-points_each
decreases-points_each l = 3 * l.depth + 1

abbrev pub invariant-points_each-loop-statement : goal.invariant-points_each-loop-statement
invariant-points_each-loop-statement l = l.into ≡ l.initial.into ++ flat_map (points l.depth) (take l.statement-index l.statements)
