use Rattle.std.proofs.Common.{arith, sym}
use Rattle.py_suite.proofs.Forms.{raise_read}
use Rattle.py_suite.proofs.simple.raised.Goals as goal

pub returns-clause-gives : goal.returns-clause-gives
returns-clause-gives c = raise_read c.args.items.now c.args.room c.args.at c.in_ok-value.end c.in_ok-cause.end c.in_ok-value.value _ c.in_ok-cause.cause (grind (arith, c.if-room-eq0.false)) (sym c.if-not-is.ensures.test) (sym c.if-not-starts_test.ensures.test) c.in_ok-value.ensures.gives c.in_ok-cause.ensures.gives (grind arith)
