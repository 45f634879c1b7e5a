use Rattle.std.proofs.Common.{take}
use Rattle.taint_flow.specs.Lowest.{AreListed}
use Rattle.taint_flow.proofs.least.Least.hits.Given as goal

abbrev pub invariant-loop-sink : goal.invariant-loop-sink
invariant-loop-sink l = AreListed (take l.sink l.least-items) l.hits
