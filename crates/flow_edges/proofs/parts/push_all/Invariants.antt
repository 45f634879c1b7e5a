use Rattle.std.proofs.Common.{◌≡◌, ◌++◌, take}
use Rattle.flow_edges.proofs.parts.push_all.Given as goal

abbrev pub invariant-loop-point : goal.invariant-loop-point
invariant-loop-point l = l.points ≡ l.initial.points ++ take l.point-index l.more
