use Rattle.std.proofs.Common.{◌≡◌, take}
use Rattle.flow_edges.proofs.parts.same.Given as goal

abbrev pub invariant-loop-point : goal.invariant-loop-point
invariant-loop-point l = l.copies ≡ take l.point-index l.points
