use Rattle.std.proofs.Common.{◌≡◌, take}
use Rattle.taint_flow.specs.Traces.{goals_of}
use Rattle.taint_trace.proofs.places.goals_at.Given as goal

abbrev pub invariant-loop-goal : goal.invariant-loop-goal
invariant-loop-goal l = l.pairs ≡ goals_of l.sink (take l.goal-index l.goals)
