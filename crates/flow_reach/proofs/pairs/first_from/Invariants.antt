use Rattle.std.proofs.Common.{◌≤◌, ◌<◌, ◌-◌, ℕ, length, get_or}
use Rattle.flow_reach.proofs.pairs.first_from.Given as goal

abbrev pub invariant-loop-low : goal.invariant-loop-low
invariant-loop-low l = record {
  bound : l.low ≤ l.high;
  top : l.high ≤ length l.xs;
  below : (k : ℕ) → k < l.low → get_or l.xs k 0 < l.least;
  above : (k : ℕ) → l.high ≤ k → k < length l.xs → l.least ≤ get_or l.xs k 0;
}

abbrev pub decreases-loop-low : goal.decreases-loop-low
decreases-loop-low l = l.high - l.low
