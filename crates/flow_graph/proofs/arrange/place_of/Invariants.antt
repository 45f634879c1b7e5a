use Rattle.std.proofs.Common.{◌≤◌, ◌<◌, ◌-◌, ℕ, length, get_or}
use Rattle.flow_graph.proofs.arrange.place_of.Given as goal

abbrev pub invariant-loop-low : goal.invariant-loop-low
invariant-loop-low l = record {
  bound : l.low ≤ l.high;
  top : l.high ≤ length l.numbers;
  below : (k : ℕ) → k < l.low → get_or l.numbers k 0 < l.number;
  above : (k : ℕ) → l.high ≤ k → k < length l.numbers → l.number ≤ get_or l.numbers k 0;
}

abbrev pub decreases-loop-low : goal.decreases-loop-low
decreases-loop-low l = l.high - l.low
