use Rattle.std.proofs.Common.{◌≡◌, ◌↔◌, ℕ, List, length, Some}
use Rattle.std.specs.Prelude.{slice_get}
use Rattle.node_tree.specs.declared.span.Span.{Span}
use Rattle.graph_form.specs.declared.graph.Point.{Point}
use Rattle.flow_reach.specs.declared.moves.Move.{Move}
use Rattle.flow_reach.specs.Carried.{TurnsBy}
use Rattle.taint_form.specs.Tables.{Holds}
use Rattle.taint_plan.specs.Facts.{PointFactOf}
use Rattle.taint_tables.specs.Numbers.{numbers_of}
use Rattle.taint_plan.proofs.rows.rows.Given as goal

abbrev pub invariant-loop-point : goal.invariant-loop-point
invariant-loop-point l = record {
  size : length l.rows ≡ l.point-index;
  each : (spans : List Span) → Holds l.look.sanitizers.now spans → (i : ℕ) (p : Point) (row : Move) → slice_get l.points i ≡ Some p → slice_get l.rows i ≡ Some row → (from to : ℕ) → TurnsBy row from to ↔ PointFactOf l.tree spans l.carries (numbers_of l.look.census.now) p from to;
}
