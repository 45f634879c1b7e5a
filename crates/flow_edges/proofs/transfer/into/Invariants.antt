use Rattle.std.proofs.Common.{take}
use Rattle.flow_edges.specs.Flow.{Into}
use Rattle.flow_edges.specs.Grows.{Adds}
use Rattle.flow_edges.proofs.transfer.into.Given as goal

abbrev pub invariant-loop-to : goal.invariant-loop-to
invariant-loop-to l = Adds l.initial.out l.out (Into l.from (take l.to-index l.targets))
