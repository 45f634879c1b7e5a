use Rattle.std.proofs.Common.{take}
use Rattle.flow_reach.specs.Spread.{AtEach}
use Rattle.flow_reach.specs.Worklist.{Grows}
use Rattle.flow_reach.proofs.spread.see_each.Given as goal

abbrev pub invariant-loop-point : goal.invariant-loop-point
invariant-loop-point l = Grows (AtEach (take l.point-index l.points) l.stride l.facts) l.initial.work l.work
