use Rattle.std.proofs.Common.{◌≡◌, ◌+◌, ◌*◌, ◌++◌, take}
use Rattle.std.specs.List.{flat_map}
use Rattle.flow_edges.specs.Flow.{cases}
use Rattle.flow_edges.specs.Grows.{AddsCases}
use Rattle.flow_edges.proofs.own_cases.+cases.Given as goal

abbrev pub decreases-cases_of : goal.decreases-cases_of
decreases-cases_of l = 3 * l.depth

abbrev pub decreases-cases_over : goal.decreases-cases_over
decreases-cases_over l = 3 * l.depth + 2

abbrev pub decreases-cases_each : goal.decreases-cases_each
decreases-cases_each l = 3 * l.depth + 1

abbrev pub invariant-cases_each-loop-statement : goal.invariant-cases_each-loop-statement
invariant-cases_each-loop-statement l = AddsCases l.initial.found l.found (flat_map (cases l.depth) (take l.statement-index l.statements))
