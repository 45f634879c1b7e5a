use Rattle.std.proofs.Common.{◌≡◌, ◌↔◌, ◌⊎◌, ◌<◌, ℕ, length, take}
use Rattle.node_pool.specs.Spots.{all_seen}
use Rattle.flow_reach.specs.Spread.{RowHas}
use Rattle.taint_plan.specs.Begins.{BeginsAmong}
use Rattle.taint_tables.specs.Numbers.{numbers_of}
use Rattle.taint_plan.proofs.plan.begins.Given as goal

abbrev pub invariant-loop-spot : goal.invariant-loop-spot
invariant-loop-spot l = record {
  size : length l.begins.items ≡ l.sources;
  begins : (source fact : ℕ) → RowHas l.begins.items source fact ↔ (((source < l.sources) × (fact ≡ source)) ⊎ BeginsAmong (numbers_of l.look.census.now) (all_seen (take l.spot-index l.spot-items)) source fact);
}
