use Rattle.trace_path.specs.Queue.{Ascends}
use Rattle.trace_path.proofs.Follow.{SoFar}
use Rattle.trace_path.proofs.check.is_trace.Given as goal

abbrev pub invariant-loop-k : goal.invariant-loop-k
invariant-loop-k l = record {
  so_far : SoFar l.graph l.moves l.points l.k l.last l.facts.items;
  ascends : Ascends l.facts.items;
}
