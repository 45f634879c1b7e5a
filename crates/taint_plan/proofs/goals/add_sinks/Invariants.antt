use Rattle.std.proofs.Common.{◌≡◌, ◌⊎◌, ◌↔◌, List, take}
use Rattle.node_tree.specs.declared.span.Span.{Span}
use Rattle.node_pool.specs.Spots.{all_seen}
use Rattle.graph_form.specs.Sets.{Among}
use Rattle.taint_form.specs.Tables.{Holds}
use Rattle.taint_plan.specs.declared.goal.Goal.{Goal}
use Rattle.taint_tables.specs.Numbers.{numbers_of}
use Rattle.taint_plan.specs.SinkGoals.{IsGoalBy}
use Rattle.taint_plan.proofs.goals.add_sinks.Given as goal

abbrev pub invariant-loop-sink : goal.invariant-loop-sink
invariant-loop-sink l = (spans : List Span) → Holds l.look.sanitizers.now spans → (g : Goal) →
    Among l.into g ↔ (Among l.initial.into g ⊎ ((g.point ≡ l.place) × IsGoalBy spans (take l.sink-index l.sinks) (numbers_of l.look.census.now) (all_seen l.heads) g.sink g.fact))
