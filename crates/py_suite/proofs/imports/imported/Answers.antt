use Rattle.std.proofs.Common.{arith, sym}
use Rattle.py_suite.specs.reader.Reading as reading
use Rattle.py_suite.proofs.Forms.{imported_read, imported_lost, passed_on}
use Rattle.py_suite.proofs.imports.imported.Goals as goal

pub returns-in_err-first-clause-gives : goal.returns-in_err-first-clause-gives
returns-in_err-first-clause-gives c = passed_on reading.one reading.one c.from_residual.result c.in_err-first.field-0.0 _ _ c.from_residual.ensures.1 c.in_err-first.ensures.gives (λ none. imported_lost c.args.items.now c.args.room c.args.at (grind (arith, c.if-room-eq0.false)) (sym c.if-is.ensures.test) (sym c.if-not-is.ensures.test) none)

pub returns-clause-gives : goal.returns-clause-gives
returns-clause-gives c = imported_read c.args.items.now c.args.room c.args.at c.in_ok-first.end c.in_ok-kids-2.end c.in_ok-first.first c.in_ok-list.list c.in_ok-kids-2.kids (grind (arith, c.if-room-eq0.false)) (sym c.if-is.ensures.test) (sym c.if-not-is.ensures.test) c.in_ok-first.ensures.gives (rw c.in_ok-kids.ensures at c.in_ok-kids-2.ensures.gives) (sym c.if-not-is-2.ensures.test) c.in_ok-list.ensures
