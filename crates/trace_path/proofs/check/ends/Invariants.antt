use Rattle.std.proofs.Common.{take}
use Rattle.trace_path.specs.Along.{Ends}
use Rattle.trace_path.proofs.check.ends.Given as goal

abbrev pub invariant-loop-goal : goal.invariant-loop-goal
invariant-loop-goal l = Ends (take l.goal-index l.goals) l.point l.facts → ⊥
