use Rattle.std.proofs.Common.{take}
use Rattle.flow_reach.specs.Spread.{Kept}
use Rattle.flow_reach.specs.Worklist.{Grows}
use Rattle.flow_reach.proofs.spread.keep.Given as goal

abbrev pub invariant-loop-point : goal.invariant-loop-point
invariant-loop-point l = Grows (Kept (take l.point-index l.points) l.width l.column l.kept) l.initial.work l.work
