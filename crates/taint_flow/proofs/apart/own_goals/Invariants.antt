use Rattle.std.proofs.Common.{◌↔◌, ◌<◌, take}
use Rattle.graph_form.specs.Sets.{Among}
use Rattle.taint_plan.specs.declared.goal.Goal.{Goal}
use Rattle.taint_flow.proofs.apart.own_goals.Given as goal

abbrev pub invariant-loop-goal : goal.invariant-loop-goal
invariant-loop-goal l = (g : Goal) → Among l.own.items g ↔ (Among (take l.goal-index l.goals) g × (g.fact < l.sources))
