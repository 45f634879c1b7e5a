use Rattle.std.proofs.Common.{arith}
use Rattle.py_expr.proofs.Cuts.{behind_ascii}
use Rattle.py_expr.proofs.strings.between.Goals as goal

pub range-requires-clause-start_boundary : goal.range-requires-clause-start_boundary
range-requires-clause-start_boundary c = λ pos. behind_ascii c.args.text.now c.args.from c.utf8.text pos (grind arith) (grind arith)
