use Rattle.std.proofs.Common.{◌∙◌, sym}
use Rattle.node_match.specs.Orders.{is_run}
use Rattle.node_match.proofs.Choosing.{some_next, some_found, some_none}
use Rattle.node_match.proofs.asked.has_runs.Goals as goal

pub loop-pattern-preserved : goal.loop-pattern-preserved
loop-pattern-preserved c = some_next is_run c.args.patterns.now c.loop-pattern.pattern-index _ c.pattern-item.result c.loop-pattern-test.true c.pattern-item.is (sym c.is_run.ensures ∙ c.if-is_run.false) c.loop-pattern.invariant

pub returns-then-is_run : goal.returns-then-is_run
returns-then-is_run c = some_found is_run c.args.patterns.now c.loop-pattern.pattern-index _ c.pattern-item.result c.loop-pattern-test.true c.pattern-item.is (sym c.is_run.ensures ∙ c.if-is_run.true) c.loop-pattern.invariant

pub returns : goal.returns
returns c = some_none is_run c.args.patterns.now c.loop-pattern.pattern-index _ c.loop-pattern-test.false c.loop-pattern.invariant
