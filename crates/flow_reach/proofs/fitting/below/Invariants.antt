use Rattle.std.proofs.Common.{take}
use Rattle.flow_reach.specs.Fitting.{AreBelow}
use Rattle.flow_reach.proofs.fitting.below.Given as goal

abbrev pub invariant-loop-number : goal.invariant-loop-number
invariant-loop-number l = AreBelow (take l.number-index l.numbers) l.most
