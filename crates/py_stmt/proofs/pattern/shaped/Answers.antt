use Rattle.node_tree.specs.declared.view.Shape.TheVariants as shapes
use Rattle.py_stmt.specs.Modules.{expression, run}
use Rattle.py_stmt.proofs.Patterns.{not_expression, taken, one_shape}
use Rattle.py_stmt.proofs.pattern.shaped.Goals as goal

pub returns-then-not-is_expression-clause-found : goal.returns-then-not-is_expression-clause-found
returns-then-not-is_expression-clause-found c = run (λ other r. not_expression c.is_expression.result c.args.statements c.as_slice.result.now other c.if-not-is_expression.true c.as_slice.ensures c.is_expression.ensures.1 r) c.in_ok-block.ensures

pub returns-clause-found : goal.returns-clause-found
returns-clause-found c = expression (taken c.args.statements c.as_slice.result.now c.pop.new.self c.pop-2.new.self c.in-Some.statement c.in-Some-pop.tree c.as_slice.ensures (c.is_expression.ensures.0 c.if-not-is_expression.false) c.in-Some.ensures c.in-Some-pop.ensures)

pub returns-clause-only : goal.returns-clause-only
returns-clause-only c = λ s n r. one_shape c.args.items.now c.args.statements s shapes.Expr n c.in-Some-pop.tree r (returns-clause-found c)
