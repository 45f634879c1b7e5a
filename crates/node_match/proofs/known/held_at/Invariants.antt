use Rattle.std.proofs.Common.{◌≤◌, ◌-◌, length}
use Rattle.node_match.proofs.Halving.{AreBefore, AreAfter}
use Rattle.node_match.proofs.known.held_at.Given as goal

abbrev pub decreases-loop-low : goal.decreases-loop-low
decreases-loop-low l = l.high - l.low

abbrev pub invariant-loop-low : goal.invariant-loop-low
invariant-loop-low l = record {
  ordered : l.low ≤ l.high;
  within : l.high ≤ length l.names;
  before : AreBefore l.names l.low l.at;
  after : AreAfter l.names l.high l.at;
}
