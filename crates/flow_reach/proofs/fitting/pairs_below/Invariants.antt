use Rattle.std.proofs.Common.{take}
use Rattle.flow_reach.specs.Fitting.{ArePairsBelow}
use Rattle.flow_reach.proofs.fitting.pairs_below.Given as goal

abbrev pub invariant-loop-pair : goal.invariant-loop-pair
invariant-loop-pair l = ArePairsBelow (take l.pair-index l.pairs) l.first l.second
