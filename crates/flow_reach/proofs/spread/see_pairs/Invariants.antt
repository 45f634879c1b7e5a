use Rattle.std.proofs.Common.{take}
use Rattle.flow_reach.specs.Spread.{AtPairs}
use Rattle.flow_reach.specs.Worklist.{Grows}
use Rattle.flow_reach.proofs.spread.see_pairs.Given as goal

abbrev pub invariant-loop-pair : goal.invariant-loop-pair
invariant-loop-pair l = Grows (AtPairs l.stride (take l.pair-index l.pairs)) l.initial.work l.work
