use Rattle.std.proofs.Common.{arith, ◌-◌, ◌+◌, ◌∙◌}
use Rattle.py_suite.proofs.Ends.{code_end_back}
use Rattle.py_suite.proofs.build.code_end.Goals as goal

pub loop-back-preserved : goal.loop-back-preserved
loop-back-preserved c = c.loop-back.invariant ∙ code_end_back c.args.items.now (c.args.at - c.loop-back.back) (c.args.at - (c.loop-back.back + 1)) (omega arith) (omega arith) (grind arith)
