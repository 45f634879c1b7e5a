use Rattle.trace_path.specs.Along.{IsDistinct}
use Rattle.trace_path.proofs.check.distinct.Given as goal

abbrev pub invariant-loop-at : goal.invariant-loop-at
invariant-loop-at l = IsDistinct l.sorted.items l.at l.found.items
