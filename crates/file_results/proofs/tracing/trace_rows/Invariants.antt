use Rattle.std.proofs.Common.{true, reverse, drop}
use Rattle.file_results.specs.Followed.{AreOfHits}
use Rattle.file_results.specs.Looking.{named_leaf}
use Rattle.file_results.specs.Tracing.{HasTrace}
use Rattle.file_results.proofs.Traces.{TraceLeads}
use Rattle.file_results.proofs.tracing.trace_rows.Given as goal

abbrev pub invariant-loop-row : goal.invariant-loop-row
invariant-loop-row l =
    AreOfHits l.running (drop l.row-index l.rows) (reverse l.bares) × TraceLeads (HasTrace true (named_leaf l.file.known) l.running l.file.lang l.file.bytes l.file.tree) l.fn.bares l.traced (reverse l.bares)
