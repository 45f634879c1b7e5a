use Rattle.std.proofs.Common.{take, ◌≡◌}
use Rattle.trace_path.specs.Fresh.{Gathers}
use Rattle.trace_path.proofs.queue.Queue.gather.Given as goal

abbrev pub invariant-loop-fact : goal.invariant-loop-fact
invariant-loop-fact l = record {
  gathers : Gathers l.base (take l.fact-index l.facts) l.initial.self.seen.items l.self.seen.items l.initial.self.facts.items l.self.facts.items;
  classes : l.self.classes ≡ l.initial.self.classes;
}
