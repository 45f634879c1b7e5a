use Rattle.std.proofs.Common.{◌↔◌, take}
use Rattle.graph_form.specs.Sets.{Among}
use Rattle.taint_tables.specs.declared.sink.Sink.{Sink}
use Rattle.taint_tables.specs.Sinks.{IsSinkOf}
use Rattle.taint_tables.proofs.sink_index.listed.Given as goal

abbrev pub invariant-loop-place : goal.invariant-loop-place
invariant-loop-place l = (s : Sink) → Among l.all.items s ↔ IsSinkOf (take l.place l.sinks) s
