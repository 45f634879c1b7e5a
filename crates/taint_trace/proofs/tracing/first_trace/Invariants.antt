use Rattle.std.proofs.Common.{◌≡◌, Some}
use Rattle.std.specs.Prelude.{slice_get}
use Rattle.node_tree.specs.declared.span.Span.{Span}
use Rattle.taint_trace.proofs.Firsts.{NoneSoFar}
use Rattle.taint_trace.proofs.tracing.first_trace.Given as goal

abbrev pub invariant-loop-place : goal.invariant-loop-place
invariant-loop-place l = (range : Span) → slice_get l.sets.ranges.sinks l.sink ≡ Some range → NoneSoFar l.flow l.sets.ranges l.source range l.places l.place-index
