use Rattle.std.proofs.Common.{◌≡◌, ◌↔◌, ℕ, length}
use Rattle.flow_reach.specs.Bits.{Has, stride_of}
use Rattle.flow_reach.specs.Spread.{Dropped}
use Rattle.flow_reach.proofs.dropped.drops.Given as goal

abbrev pub invariant-loop-point : goal.invariant-loop-point
invariant-loop-point l = record {
  room : length l.set.items ≡ l.words;
  has : (k : ℕ) → Has l.set.items k ↔ Dropped l.moves.rows (stride_of l.moves.facts) l.point k;
}
