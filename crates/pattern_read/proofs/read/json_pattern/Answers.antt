use Rattle.std.proofs.Common.{refl}
use Rattle.std.proofs.lemmas.Result.{err_from_is_err_and}
use Rattle.pattern_read.proofs.Laws.{pair_fails, last_kid, same_kid}
use Rattle.pattern_read.proofs.read.json_pattern.Goals as goal

pub returns-in_err-root-clause-only : goal.returns-in_err-root-clause-only
returns-in_err-root-clause-only c = λ shape value is.
    let p = err_from_is_err_and c.from_residual.result c.from_residual.ensures.1 in
    rw (p.1, p.2) (pair_fails c.in_err-root.field-0.0 is.1.root (shape, value) (c.in_err-root.ensures.only is.1.root is.1.tree))

pub returns-clause-value : goal.returns-clause-value
returns-clause-value c = (refl, last_kid c.args.text.now c.in_ok-root.root c.in-Some.value c.in-Some.value _ c.in_ok-root.ensures.found c.in-Some.ensures)

pub returns-clause-only : goal.returns-clause-only
returns-clause-only c = λ shape value is. same_kid c.args.text.now c.in_ok-root.root c.in-Some.value value _ c.in_ok-root.ensures.found c.in-Some.ensures shape is (c.in_ok-root.ensures.only is.1.root is.1.tree)
