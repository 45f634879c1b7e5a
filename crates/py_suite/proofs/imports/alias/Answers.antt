use Rattle.std.proofs.Common.{arith, sym, refl, ◌+◌}
use Rattle.py_suite.proofs.Forms.{alias_read}
use Rattle.py_suite.proofs.imports.alias.Goals as goal

pub returns-clause-gives : goal.returns-clause-gives
returns-clause-gives c = alias_read c.args.items.now c.args.room c.args.at c.in_ok-name.end (c.in_ok-name.end + 2) c.in_ok-name.name c.in_ok-ident.field-0 _ (grind (arith, c.if-room-eq0.false)) (sym c.if-is_dots.ensures.test) c.in_ok-name.ensures.gives (sym c.if-not-is.ensures.test) (sym c.if-not-is_name.ensures.test) c.in_ok-ident.ensures refl (grind arith)
