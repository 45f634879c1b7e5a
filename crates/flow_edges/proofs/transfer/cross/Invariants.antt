use Rattle.std.proofs.Common.{take}
use Rattle.flow_edges.specs.Flow.{Cross}
use Rattle.flow_edges.specs.Grows.{Adds}
use Rattle.flow_edges.proofs.transfer.cross.Given as goal

abbrev pub invariant-loop-point : goal.invariant-loop-point
invariant-loop-point l = Adds l.initial.out l.out (Cross (take l.point-index l.points) l.targets)
