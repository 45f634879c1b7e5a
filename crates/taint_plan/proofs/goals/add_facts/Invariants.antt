use Rattle.std.proofs.Common.{◌⊎◌, ◌↔◌, take}
use Rattle.graph_form.specs.Sets.{Among}
use Rattle.taint_plan.specs.declared.goal.Goal.{Goal}
use Rattle.taint_plan.specs.SinkGoals.{IsOf}
use Rattle.taint_plan.proofs.goals.add_facts.Given as goal

abbrev pub invariant-loop-fact : goal.invariant-loop-fact
invariant-loop-fact l = (g : Goal) → Among l.into g ↔ (Among l.initial.into g ⊎ IsOf l.sink l.place (Among (take l.fact-index l.fact-items)) g)
