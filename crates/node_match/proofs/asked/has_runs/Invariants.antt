use Rattle.std.proofs.Common.{◌≡◌, drop}
use Rattle.node_match.specs.Orders.{has_runs}
use Rattle.node_match.proofs.asked.has_runs.Given as goal

abbrev pub invariant-loop-pattern : goal.invariant-loop-pattern
invariant-loop-pattern l = has_runs l.patterns ≡ has_runs (drop l.pattern-index l.patterns)
