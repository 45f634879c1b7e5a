use Rattle.std.proofs.Common.{◌⊎◌, ◌↔◌, List, take}
use Rattle.node_tree.specs.declared.span.Span.{Span}
use Rattle.graph_form.specs.Sets.{Among}
use Rattle.taint_form.specs.Expressions.{nodes_now}
use Rattle.taint_form.specs.Tables.{Holds}
use Rattle.taint_plan.specs.declared.goal.Goal.{Goal}
use Rattle.taint_tables.specs.Numbers.{numbers_of}
use Rattle.taint_plan.specs.SinkGoals.{IsOf, TaintsAny}
use Rattle.taint_plan.proofs.goals.add_all_facts.Given as goal

abbrev pub invariant-loop-node : goal.invariant-loop-node
invariant-loop-node l = (spans : List Span) → Holds l.look.sanitizers.now spans → (g : Goal) →
    Among l.into g ↔ (Among l.initial.into g ⊎ IsOf l.sink l.place (TaintsAny spans (numbers_of l.look.census.now) (nodes_now (take l.node-index l.shown))) g)
