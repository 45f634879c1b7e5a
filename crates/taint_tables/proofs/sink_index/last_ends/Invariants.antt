use Rattle.taint_tables.proofs.SinkLists.{EndsSoFar}
use Rattle.taint_tables.proofs.sink_index.last_ends.Given as goal

abbrev pub invariant-loop-sink : goal.invariant-loop-sink
invariant-loop-sink l = EndsSoFar l.sinks l.sink-index l.last l.ends.items
