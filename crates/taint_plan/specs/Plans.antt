-- What is looked for in a unit: the facts that begin at its entry, what its points do to facts, and the goals of sinks.
use Rattle.std.specs.Prelude.{◌≡◌, ◌↔◌, ◌+◌, ◌<◌, ℕ, List, length, slice_get, Some}
use Rattle.std.specs.Global.{Vec}
use Rattle.node_tree.specs.declared.node.Node.{Node}
use Rattle.node_tree.specs.declared.span.Span.{Span}
use Rattle.graph_form.specs.declared.graph.Point.{Point}
use Rattle.graph_form.specs.Sets.{Among}
use Rattle.flow_reach.specs.declared.moves.Move.{Move}
use Rattle.flow_reach.specs.Carried.{TurnsBy}
use Rattle.taint_tables.specs.declared.census.Census.{Census}
use Rattle.taint_plan.specs.declared.goal.Goal.{Goal}
use Rattle.taint_plan.specs.declared.plan.Plan.{Plan}
use Rattle.taint_tables.specs.declared.sets.TaintSets.{TaintSets}
use Rattle.taint_plan.specs.Facts.{BeginsBy, PointFact}
use Rattle.taint_plan.specs.SinkGoals.{IsGoal}
use Rattle.taint_tables.specs.Numbers.{numbers_of}

-- the plan of a unit with these points, names and sources
pub record IsPlan (nodes : List Node) (unit : ℕ) (points : List Point) (sets : TaintSets) (census : Census) (plan : Plan) : Type 0 where
  pub facts : plan.moves.facts ≡ length census.sources.keys.items + length census.names.keys.items
  pub rows : length plan.moves.rows ≡ length points
  pub turns : (i : ℕ) (p : Point) (row : Move) → slice_get points i ≡ Some p → slice_get plan.moves.rows i ≡ Some row → (from to : ℕ) → TurnsBy row from to ↔ PointFact nodes sets (numbers_of census) p from to
  pub lists : length plan.begins.items ≡ length census.sources.keys.items
  pub begins : (k : ℕ) (source : Span) (facts : Vec ℕ) → slice_get census.sources.keys.items k ≡ Some source → slice_get plan.begins.items k ≡ Some facts → (fact : ℕ) → Among facts.items fact ↔ BeginsBy nodes unit (numbers_of census) source k fact
  pub begin_facts : (facts : Vec ℕ) → Among plan.begins.items facts → (fact : ℕ) → Among facts.items fact → fact < plan.moves.facts
  pub start : (fact : ℕ) → Among plan.moves.start fact ↔ ((facts : Vec ℕ) × Among plan.begins.items facts × Among facts.items fact)
  pub goals : (g : Goal) → Among plan.goals g ↔ IsGoal nodes points sets.sanitizers sets.sinks (numbers_of census) g
  pub goal_facts : (g : Goal) → Among plan.goals g → g.fact < plan.moves.facts
