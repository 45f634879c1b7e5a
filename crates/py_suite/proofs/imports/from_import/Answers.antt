use Rattle.std.proofs.Common.{arith, sym}
use Rattle.py_suite.proofs.Forms.{from_read}
use Rattle.py_suite.proofs.imports.from_import.Goals as goal

pub returns-clause-gives : goal.returns-clause-gives
returns-clause-gives c = from_read c.args.items.now c.args.room c.args.at c.in_ok-points.end c.in_ok-list.end c.in_ok-points.points c.in_ok-points.name c.in_ok-list.list _ (grind (arith, c.if-room-eq0.false)) (sym c.if-not-is.ensures.test) (rw c.start_at.ensures at c.in_ok-points.ensures.gives) (sym c.if-not-is-2.ensures.test) c.in_ok-list.ensures.gives (grind arith)
