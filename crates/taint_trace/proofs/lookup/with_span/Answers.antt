use Rattle.taint_trace.proofs.SpanOrder.{ends_ordered, with_span}
use Rattle.taint_trace.proofs.lookup.with_span.Goals as goal

pub slice_bounds-result-count : goal.slice_bounds-result-count
slice_bounds-result-count c =
    let start = c.count_before-start in
    let end = c.count_through-end in
    ends_ordered c.args.span c.args.standings.now start.result end.result start.ensures.within end.ensures.within start.ensures.parts end.ensures.parts

pub slice_bounds-result-start : goal.slice_bounds-result-start
slice_bounds-result-start c =
    let start = c.count_before-start in
    let end = c.count_through-end in
    ends_ordered c.args.span c.args.standings.now start.result end.result start.ensures.within end.ensures.within start.ensures.parts end.ensures.parts

pub returns : goal.returns
returns c =
    let start = c.count_before-start in
    let end = c.count_through-end in
    with_span c.args.span c.args.standings.now start.result end.result start.ensures.within end.ensures.within start.ensures.parts end.ensures.parts
