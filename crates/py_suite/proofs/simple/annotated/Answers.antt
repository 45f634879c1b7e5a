use Rattle.std.proofs.Common.{arith, sym}
use Rattle.py_suite.proofs.Forms.{annotated_read}
use Rattle.py_suite.proofs.simple.annotated.Goals as goal

pub returns-clause-gives : goal.returns-clause-gives
returns-clause-gives c = annotated_read c.args.items.now c.args.room c.args.at c.in_ok-target.end c.in_ok-annotation.end c.in_ok-value.end c.in_ok-target.target c.in_ok-annotation.annotation _ c.in_ok-value.value (grind (arith, c.if-room-eq0.false)) c.in_ok-target.ensures.gives (sym c.if-not-is.ensures.test) c.in_ok-annotation.ensures.gives c.in_ok-value.ensures.gives (grind arith)
