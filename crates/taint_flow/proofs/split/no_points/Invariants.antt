use Rattle.std.proofs.Common.{◌≡◌, ℕ, length}
use Rattle.taint_flow.specs.Splits.{ListHas}
use Rattle.taint_flow.proofs.split.no_points.Given as goal

abbrev pub invariant-loop : goal.invariant-loop
invariant-loop l = record {
  size : length l.added.items ≡ l.counter;
  none : (source : ℕ) (at : ℕ × ℕ) → ListHas l.added.items source at → ⊥;
}
