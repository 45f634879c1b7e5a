use Rattle.std.proofs.Common.{ap, ◌∙◌}
use Rattle.std.specs.Prelude.{Some}
use Rattle.std.proofs.lemmas.Option.{slice_get-get_or}
use Rattle.node_tree.specs.declared.span.Span.{Span}
use Rattle.node_tree.proofs.Orders.{span_order}
use Rattle.taint_trace.proofs.SpanOrder.{not_among}
use Rattle.taint_trace.proofs.places.place_of.Goals as goal

abbrev none : Span
none = record { from = 0; to = 0 }

pub returns-in-Ok : goal.returns-in-Ok
returns-in-Ok c = slice_get-get_or c.args.ranges.now c.in-Ok.at none c.in-Ok.ensures.bound ∙ ap Some (span_order.same _ _ (c.in-Ok.ensures.position none))

pub returns-in-Err : goal.returns-in-Err
returns-in-Err c = not_among c.args.ranges.now c.args.range c.in-Err.field-0 c.requires c.in-Err.ensures.position
