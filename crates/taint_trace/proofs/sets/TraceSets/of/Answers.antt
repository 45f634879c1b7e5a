use Rattle.std.proofs.Common.{List, sym, subst}
use Rattle.std.specs.List.Sorted.{IsSorted}
use Rattle.node_tree.specs.declared.span.Span.{Span}
use Rattle.node_tree.specs.Span.{span_cmp}
use Rattle.taint_trace.proofs.SpanOrder.{ranges_sorted}
use Rattle.taint_trace.proofs.sets.TraceSets.of.Goals as goal

pub invariant_of-result : goal.invariant_of-result
invariant_of-result c =
    let are = c.in_ok-sets.ensures.read.sets_are in
    let Sorted : List Span → Type 0 = IsSorted span_cmp in
    record { tables_are = c.in_ok-tables.ensures; ordered = subst Sorted (sym are.places) (ranges_sorted c.in_ok-sets.sets.sinks are.members.ordered) }
