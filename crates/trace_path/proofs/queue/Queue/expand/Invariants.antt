use Rattle.std.proofs.Common.{take, ◌≡◌, ◌<◌, ◌⊎◌}
use Rattle.graph_form.specs.Sets.{Among}
use Rattle.trace_path.specs.Queue.{Stands, Leaves, Grows, groups}
use Rattle.trace_path.proofs.queue.Queue.expand.Given as goal

abbrev pub invariant-loop-point : goal.invariant-loop-point
invariant-loop-point l = record {
  stands : Stands l.graph l.moves l.head (λ i q. (i < l.head) ⊎ ((i ≡ l.head) × Among (take l.point-index l.next) q)) l.self;
  leaves : Leaves l.graph l.moves (groups l.self) l.head l.next l.turned;
  grows : Grows l.initial.self l.self;
}
