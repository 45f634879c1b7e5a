use Rattle.flow_edges.specs.Flow.{cases}
use Rattle.flow_edges.proofs.Grown.{cases_more}
use Rattle.flow_edges.proofs.own_cases.+cases.Goals as goal

pub cases_each-loop-statement-preserved : goal.cases_each-loop-statement-preserved
cases_each-loop-statement-preserved t c = cases_more (cases c.args.depth) c.args.statements.now c.loop-statement.statement-index c.statement-item.result _ _ _ c.loop-statement-test.true c.statement-item.is c.loop-statement.invariant c.in_ok-cases_of.ensures
