use Rattle.std.proofs.Common.{take}
use Rattle.flow_reach.specs.Fitting.{AreEdgesBelow}
use Rattle.flow_reach.proofs.fitting.edges_below.Given as goal

abbrev pub invariant-loop-edge : goal.invariant-loop-edge
invariant-loop-edge l = AreEdgesBelow (take l.edge-index l.edges) l.points
