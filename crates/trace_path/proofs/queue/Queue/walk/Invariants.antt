use Rattle.std.proofs.Common.{◌<◌, ◌++◌, List, ℕ, length}
use Rattle.trace_path.specs.Queue.{IsRoute, groups}
use Rattle.trace_path.proofs.queue.Queue.walk.Given as goal

abbrev pub invariant-loop-at : goal.invariant-loop-at
invariant-loop-at l = record {
  inside : l.at < length l.self.classes.items;
  grows : (route : List ℕ) → IsRoute (groups l.self) l.at route → IsRoute (groups l.self) l.from (l.points ++ route);
}

abbrev pub decreases-loop-at : goal.decreases-loop-at
decreases-loop-at l = l.at
