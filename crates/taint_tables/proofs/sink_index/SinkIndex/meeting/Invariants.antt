use Rattle.std.proofs.Common.{◌↔◌, ◌≤◌}
use Rattle.graph_form.specs.Sets.{Among}
use Rattle.taint_tables.specs.declared.sink.Sink.{Sink}
use Rattle.taint_tables.proofs.SinkLists.{Between}
use Rattle.taint_tables.proofs.sink_index.SinkIndex.meeting.Given as goal

abbrev pub invariant-loop-at : goal.invariant-loop-at
invariant-loop-at l = record {
  inside : l.at ≤ l.initial.at;
  found : (s : Sink) → Among l.found.items s ↔ Between l.self-inside.sinks.items l.hull.first_end l.at l.initial.at s;
}

abbrev pub decreases-loop-at : goal.decreases-loop-at
decreases-loop-at l = l.at
