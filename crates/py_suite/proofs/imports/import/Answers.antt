use Rattle.std.proofs.Common.{arith, sym, ◌∙◌}
use Rattle.node_tree.specs.declared.kind.Kind.TheVariants as k
use Rattle.py_suite.specs.reader.Reading as reading
use Rattle.py_suite.proofs.Forms.{import_read, stated_some, stated_none, passed_on}
use Rattle.py_suite.proofs.imports.import.Goals as goal

pub returns-in_err-kids-2-clause-gives : goal.returns-in_err-kids-2-clause-gives
returns-in_err-kids-2-clause-gives c = passed_on reading.one reading.all c.from_residual-in_err-kids-2.result c.in_err-kids-2.field-0.0 _ _ c.from_residual-in_err-kids-2.ensures.1 (rw c.in_ok-kids.ensures at c.in_err-kids-2.ensures.gives) (λ none. import_read c.args.items.now c.args.room c.args.at c.in_ok-first.end c.in_ok-first.first (grind (arith, c.if-room-eq0.false)) (sym c.if-not-is.ensures.test) c.in_ok-first.ensures.gives ∙ stated_none c.args.items.now k.Import c.args.at _ none)

pub returns-clause-gives : goal.returns-clause-gives
returns-clause-gives c = import_read c.args.items.now c.args.room c.args.at c.in_ok-first.end c.in_ok-first.first (grind (arith, c.if-room-eq0.false)) (sym c.if-not-is.ensures.test) c.in_ok-first.ensures.gives ∙ stated_some c.args.items.now k.Import c.args.at c.in_ok-kids-2.end _ c.in_ok-kids-2.kids _ (rw c.in_ok-kids.ensures at c.in_ok-kids-2.ensures.gives) c.in_ok-plain.ensures
