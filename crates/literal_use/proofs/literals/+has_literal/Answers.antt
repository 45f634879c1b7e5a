use Rattle.std.proofs.Common.{◌∙◌, sym}
use Rattle.node_match.proofs.Choosing.{some_found, some_none}
use Rattle.literal_use.specs.Literals.{has_literal}
use Rattle.literal_use.proofs.Having.{has_here, has_below}
use Rattle.literal_use.proofs.literals.+has_literal.Goals as goal

pub returns-then-takes_names : goal.returns-then-takes_names
returns-then-takes_names t c = has_here c.args.pattern.now (sym c.takes_names.ensures ∙ c.if-takes_names.true)

pub returns-then-has_literal : goal.returns-then-has_literal
returns-then-has_literal t c =
    has_below c.args.pattern.now c.as_slice-kid-items.result.now _ (sym c.takes_names.ensures ∙ c.if-takes_names.false) c.as_slice-kid-items.ensures
    (some_found has_literal c.as_slice-kid-items.result.now c.loop-kid.kid-index _ c.kid-item.result c.loop-kid-test.true c.kid-item.is (sym c.has_literal.ensures ∙ c.if-has_literal.true) c.loop-kid.invariant)

pub returns : goal.returns
returns t c =
    has_below c.args.pattern.now c.as_slice-kid-items.result.now _ (sym c.takes_names.ensures ∙ c.if-takes_names.false) c.as_slice-kid-items.ensures
    (some_none has_literal c.as_slice-kid-items.result.now c.loop-kid.kid-index _ c.loop-kid-test.false c.loop-kid.invariant)
