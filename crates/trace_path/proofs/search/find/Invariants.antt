use Rattle.std.proofs.Common.{◌≡◌, ◌≤◌, ◌<◌, ◌+◌, ◌-◌, ℕ, length}
use Rattle.trace_path.specs.Fresh.{missing}
use Rattle.trace_path.specs.Queue.{Group, Stands, IsAt, Meets, groups}
use Rattle.trace_path.proofs.search.find.Given as goal

abbrev pub invariant-loop-head : goal.invariant-loop-head
invariant-loop-head l = record {
  stands : Stands l.graph l.moves l.head (λ i q. i < l.head) l.queue;
  unmet : (i : ℕ) (c : Group) → IsAt (groups l.queue) i c → i < l.head → Meets l.goals c → ⊥;
  few : missing l.queue.seen.items + length l.queue.classes.items ≤ 3200000001;
  inside : l.head ≤ length l.queue.classes.items;
}

abbrev pub decreases-loop-head : goal.decreases-loop-head
decreases-loop-head l = missing l.queue.seen.items + length l.queue.classes.items - l.head
