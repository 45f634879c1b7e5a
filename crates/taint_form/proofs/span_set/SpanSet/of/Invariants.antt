use Rattle.std.proofs.Common.{◌≡◌, take}
use Rattle.std.specs.BTreeSet.{contains}
use Rattle.node_tree.specs.declared.span.Span.{Span}
use Rattle.node_tree.specs.Span.{span_cmp}
use Rattle.taint_form.specs.Expressions.{has_span}
use Rattle.taint_form.proofs.span_set.SpanSet.of.Given as goal

abbrev pub invariant-loop-span : goal.invariant-loop-span
invariant-loop-span l = (s : Span) → contains span_cmp l.set s ≡ has_span (take l.span-index l.spans) s
