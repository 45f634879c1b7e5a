use Rattle.std.proofs.Common.{take}
use Rattle.flow_reach.specs.Reached.{Tells}
use Rattle.taint_flow.specs.Lowest.{Lowers}
use Rattle.taint_flow.specs.Still.{BySources}
use Rattle.taint_flow.proofs.still.note_reached.Given as goal

abbrev pub invariant-loop-goal : goal.invariant-loop-goal
invariant-loop-goal l = Lowers (BySources (λ point. Tells l.reached point 0) l.sources (take l.goal-index l.goals)) l.initial.least.sources.items l.least.sources.items
