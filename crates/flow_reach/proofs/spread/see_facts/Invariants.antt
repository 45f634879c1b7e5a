use Rattle.std.proofs.Common.{take}
use Rattle.flow_reach.specs.Spread.{At}
use Rattle.flow_reach.specs.Worklist.{Grows}
use Rattle.flow_reach.proofs.spread.see_facts.Given as goal

abbrev pub invariant-loop-fact : goal.invariant-loop-fact
invariant-loop-fact l = Grows (At l.base (take l.fact-index l.facts)) l.initial.work l.work
