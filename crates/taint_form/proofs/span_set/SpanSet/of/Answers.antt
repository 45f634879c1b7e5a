use Rattle.std.proofs.Common.{true, cond, take, get_or, sym, ap, ◌∙◌}
use Rattle.std.proofs.lemmas.List.{take_more, take_all}
use Rattle.node_tree.specs.declared.span.Span.{Span}
use Rattle.taint_form.specs.Expressions.{has_span, same_span}
use Rattle.taint_form.proofs.Spans.{has_push}
use Rattle.taint_form.proofs.span_set.SpanSet.of.Goals as goal

abbrev none : Span
none = record { from = 0; to = 0 }

pub returns : goal.returns
returns c s = c.loop-span.invariant s ∙ ap (λ xs. has_span xs s) (take_all c.loop-span.span-index c.args.spans.now c.loop-span-test.false)

pub loop-span-preserved : goal.loop-span-preserved
loop-span-preserved c s =
    let xs = c.args.spans.now in
    c.in_ok-insert.ensures.updates.0 s ∙ ap (λ b. cond (same_span (get_or xs c.loop-span.span-index none) s) true b) (c.loop-span.invariant s) ∙ sym (has_push (take c.loop-span.span-index xs) (get_or xs c.loop-span.span-index none) s) ∙ ap (λ ys. has_span ys s) (sym (take_more xs c.loop-span.span-index none c.loop-span-test.true))
