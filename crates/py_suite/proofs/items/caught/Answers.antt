use Rattle.std.proofs.Common.{arith, sym}
use Rattle.py_suite.proofs.Forms.{caught_read, caught_open}
use Rattle.py_suite.proofs.items.caught.Goals as goal

pub returns-then-not-is-2-clause-gives : goal.returns-then-not-is-2-clause-gives
returns-then-not-is-2-clause-gives c = caught_open c.args.items.now c.args.room c.args.from c.args.at c.in_ok-kind.end c.in_ok-name.end c.in_ok-kind.kind c.in_ok-name.name (grind (arith, c.if-room-eq0.false)) (sym c.if-not-starts_test.ensures.test) c.in_ok-kind.ensures.gives c.in_ok-name.ensures.gives (sym c.if-not-is-2.ensures.test)

pub returns-clause-gives : goal.returns-clause-gives
returns-clause-gives c = caught_read c.args.items.now c.args.room c.args.from c.args.at c.in_ok-kind.end c.in_ok-name.end c.in_ok-kind.kind c.in_ok-name.name (grind (arith, c.if-room-eq0.false)) (sym c.if-not-starts_test.ensures.test) c.in_ok-kind.ensures.gives c.in_ok-name.ensures.gives (sym c.if-not-is-2.ensures.test)
