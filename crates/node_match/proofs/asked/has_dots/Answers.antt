use Rattle.std.proofs.Common.{◌∙◌, sym}
use Rattle.node_match.specs.Orders.{is_dots}
use Rattle.node_match.proofs.Choosing.{some_next, some_found, some_none}
use Rattle.node_match.proofs.asked.has_dots.Goals as goal

pub loop-pattern-preserved : goal.loop-pattern-preserved
loop-pattern-preserved c = some_next is_dots c.args.patterns.now c.loop-pattern.pattern-index _ c.pattern-item.result c.loop-pattern-test.true c.pattern-item.is (sym c.is_dots.ensures ∙ c.if-is_dots.false) c.loop-pattern.invariant

pub returns-then-is_dots : goal.returns-then-is_dots
returns-then-is_dots c = some_found is_dots c.args.patterns.now c.loop-pattern.pattern-index _ c.pattern-item.result c.loop-pattern-test.true c.pattern-item.is (sym c.is_dots.ensures ∙ c.if-is_dots.true) c.loop-pattern.invariant

pub returns : goal.returns
returns c = some_none is_dots c.args.patterns.now c.loop-pattern.pattern-index _ c.loop-pattern-test.false c.loop-pattern.invariant
