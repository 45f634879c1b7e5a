use Rattle.std.proofs.Common.{◌↔◌, List, take}
use Rattle.node_tree.specs.declared.span.Span.{Span}
use Rattle.graph_form.specs.Sets.{Among}
use Rattle.point_nodes.specs.Tops.{tops_of}
use Rattle.taint_form.specs.Tables.{Holds}
use Rattle.taint_plan.specs.declared.goal.Goal.{Goal}
use Rattle.taint_tables.specs.Numbers.{numbers_of}
use Rattle.taint_plan.specs.SinkGoals.{AtPoints, IsGoalBy}
use Rattle.taint_plan.proofs.goals.goals.Given as goal

abbrev pub invariant-loop-place : goal.invariant-loop-place
invariant-loop-place l = (spans : List Span) → Holds l.look.sanitizers.now spans → (g : Goal) →
    Among l.goals g ↔ AtPoints (λ p. IsGoalBy spans l.index (numbers_of l.look.census.now) (tops_of l.tree p)) (take l.place l.points) g
