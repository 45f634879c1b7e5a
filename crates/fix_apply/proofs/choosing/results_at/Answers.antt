use Rattle.std.proofs.Common.{List, sym, subst}
use Rattle.std.specs.List.Sorted.{IsNonDecreasingBy}
use Rattle.report_form.specs.declared.report.Reported.{Reported}
use Rattle.fix_apply.specs.Order.{begins_at}
use Rattle.fix_apply.proofs.Places.{begins_first, are_at, begins_rise}
use Rattle.fix_apply.proofs.choosing.results_at.Goals as goal

pub slice_bounds-result-count : goal.slice_bounds-result-count
slice_bounds-result-count c = begins_first c.args.path.now c.args.results.now c.count_before-from.result c.count_through-to.result c.count_before-from.ensures.within c.count_before-from.ensures.parts c.count_through-to.ensures.within c.count_through-to.ensures.parts

pub slice_bounds-result-start : goal.slice_bounds-result-start
slice_bounds-result-start c = begins_first c.args.path.now c.args.results.now c.count_before-from.result c.count_through-to.result c.count_before-from.ensures.within c.count_before-from.ensures.parts c.count_through-to.ensures.within c.count_through-to.ensures.parts

pub returns-clause-at : goal.returns-clause-at
returns-clause-at c = are_at c.args.path.now c.args.results.now c.count_before-from.result c.count_through-to.result c.count_before-from.ensures.within c.count_before-from.ensures.parts c.count_through-to.ensures.within c.count_through-to.ensures.parts

pub returns-clause-in_order : goal.returns-clause-in_order
returns-clause-in_order c =
    let P : List Reported → Type 0 = λ rs. IsNonDecreasingBy begins_at rs in
    let at = are_at c.args.path.now c.args.results.now c.count_before-from.result c.count_through-to.result c.count_before-from.ensures.within c.count_before-from.ensures.parts c.count_through-to.ensures.within c.count_through-to.ensures.parts in
    subst P (sym at) (begins_rise c.args.path.now c.args.results.now c.requires)
