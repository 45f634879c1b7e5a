use Rattle.import_names.proofs.Ordering.{begins_first, are_of}
use Rattle.import_names.proofs.meanings.said_of.Goals as goal

pub slice_bounds-result-count : goal.slice_bounds-result-count
slice_bounds-result-count c = begins_first c.args.name.now c.args.claims.now c.count_before-from.result c.count_through-to.result c.count_before-from.ensures.within c.count_before-from.ensures.parts c.count_through-to.ensures.within c.count_through-to.ensures.parts

pub slice_bounds-result-start : goal.slice_bounds-result-start
slice_bounds-result-start c = begins_first c.args.name.now c.args.claims.now c.count_before-from.result c.count_through-to.result c.count_before-from.ensures.within c.count_before-from.ensures.parts c.count_through-to.ensures.within c.count_through-to.ensures.parts

pub returns : goal.returns
returns c = are_of c.args.name.now c.args.claims.now c.count_before-from.result c.count_through-to.result c.count_before-from.ensures.within c.count_before-from.ensures.parts c.count_through-to.ensures.within c.count_through-to.ensures.parts
