use Rattle.std.proofs.Common.{take}
use Rattle.flow_reach.specs.Reached.{Tells}
use Rattle.taint_flow.specs.Found.{BySource}
use Rattle.taint_flow.specs.Lowest.{Lowers}
use Rattle.taint_flow.proofs.search.note.Given as goal

abbrev pub invariant-loop-goal : goal.invariant-loop-goal
invariant-loop-goal l = Lowers (BySource l.source (Tells l.names) (take l.goal-index l.goals)) l.initial.least.sources.items l.least.sources.items
