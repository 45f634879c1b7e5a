use Rattle.std.proofs.Common.{◌≡◌, ◌↔◌, ℕ, take, length}
use Rattle.flow_reach.specs.Bits.{Has}
use Rattle.flow_reach.specs.Spread.{AtPairs}
use Rattle.trace_path.proofs.goals.numbers.Given as goal

abbrev pub invariant-loop-pair : goal.invariant-loop-pair
invariant-loop-pair l = record {
  room : length l.set.items ≡ l.words;
  has : (k : ℕ) → Has l.set.items k ↔ AtPairs l.stride (take l.pair-index l.pairs) k;
}
