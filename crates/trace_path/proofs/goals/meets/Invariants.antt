use Rattle.std.proofs.Common.{take}
use Rattle.trace_path.specs.Queue.{HasOne}
use Rattle.trace_path.proofs.goals.meets.Given as goal

abbrev pub invariant-loop-fact : goal.invariant-loop-fact
invariant-loop-fact l = HasOne l.set l.base (take l.fact-index l.facts) → ⊥
