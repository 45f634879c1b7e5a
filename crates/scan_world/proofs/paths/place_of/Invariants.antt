use Rattle.std.proofs.Common.{◌≤◌, ◌-◌, length, drop}
use Rattle.scan_world.proofs.Ascents.{IsAbove, IsBelow}
use Rattle.scan_world.proofs.paths.place_of.Given as goal

abbrev pub decreases-loop-low : goal.decreases-loop-low
decreases-loop-low l = l.high - l.low

abbrev pub invariant-loop-low : goal.invariant-loop-low
invariant-loop-low l = record {
  ordered : l.low ≤ l.high;
  within : l.high ≤ length l.paths;
  above : IsAbove l.paths l.low l.path;
  below : IsBelow l.path (drop l.high l.paths);
}
