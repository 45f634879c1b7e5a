use Rattle.std.proofs.Common.{◌∙◌, sym, ap}
use Rattle.py_expr.specs.Insides.{without_equal}
use Rattle.py_expr.proofs.Tokens.{equal_dropped, equal_kept}
use Rattle.py_expr.proofs.inside.without_equal.Goals as goal

pub returns-then-is_equal : goal.returns-then-is_equal
returns-then-is_equal c = sym (ap without_equal c.in-Some.ensures.cases.0 ∙ equal_dropped c.in-Some.front.now c.in-Some.last.now (sym c.is_equal.ensures ∙ c.if-is_equal.true))

pub returns-else-is_equal : goal.returns-else-is_equal
returns-else-is_equal c = sym (ap without_equal c.in-Some.ensures.cases.0 ∙ (equal_kept c.in-Some.front.now c.in-Some.last.now (sym c.is_equal.ensures ∙ c.if-is_equal.false) ∙ sym c.in-Some.ensures.cases.0))
