use Rattle.std.proofs.Common.{◌≡◌, ◌↔◌, ℕ, Some, length}
use Rattle.std.specs.Prelude.{slice_get}
use Rattle.std.specs.Global.{Vec}
use Rattle.graph_form.specs.Sets.{Among}
use Rattle.trace_path.specs.Queue.{Ascends}
use Rattle.trace_path.proofs.turning.in_order.Given as goal

abbrev pub invariant-loop-row : goal.invariant-loop-row
invariant-loop-row l = record {
  size : length l.rows.items ≡ l.row-index;
  each : (i : ℕ) (row : Vec ℕ) → slice_get l.rows.items i ≡ Some row → (old : Vec ℕ) × (slice_get l.table i ≡ Some old) × ((x : ℕ) → Among row.items x ↔ Among old.items x) × Ascends row.items;
}
