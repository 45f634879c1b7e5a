use Rattle.std.proofs.Common.{◌≡◌, ◌↔◌, ◌<◌, ℕ, length}
use Rattle.flow_reach.specs.Spread.{RowHas}
use Rattle.taint_plan.proofs.plan.own_begins.Given as goal

abbrev pub invariant-loop-source : goal.invariant-loop-source
invariant-loop-source l = record {
  size : length l.begins.items ≡ l.source;
  own : (source fact : ℕ) → RowHas l.begins.items source fact ↔ ((source < l.source) × (fact ≡ source));
}
