use Rattle.std.proofs.lemmas.Result.{err_from_is_err_and}
use Rattle.rule_entries.proofs.Shapes.{compare_stops, compare_goes}
use Rattle.rule_entries.proofs.formula.meta_compare.Goals as goal

pub returns-in_err-comparison : goal.returns-in_err-comparison
returns-in_err-comparison c = λ s.
    let p = err_from_is_err_and c.from_residual-in_err-comparison.result c.from_residual-in_err-comparison.ensures.1 in
    rw (p.1, p.2) (compare_stops c.args.value.now s c.in_ok-entries.entries.now c.in_ok-text.text.now c.in_ok-entries.ensures c.in_ok-text.ensures c.comparison.result c.in_err-comparison.field-0.0 (c.comparison.ensures s) c.in_err-comparison.ensures)

pub returns : goal.returns
returns c = λ s. compare_goes c.args.value.now s c.in_ok-entries.entries.now c.in_ok-text.text.now c.in_ok-entries.ensures c.in_ok-text.ensures c.comparison.result c.in_ok-comparison.comparison (c.comparison.ensures s) c.in_ok-comparison.ensures
