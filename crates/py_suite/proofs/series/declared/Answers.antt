use Rattle.std.proofs.Common.{sym, refl, ◌∙◌, ◌+◌}
use Rattle.py_suite.specs.reader.Reading as reading
use Rattle.py_suite.proofs.Forms.{declared_read, stated_some, stated_none, passed_on}
use Rattle.py_suite.proofs.series.declared.Goals as goal

pub returns-in_err-kids-2-clause-gives : goal.returns-in_err-kids-2-clause-gives
returns-in_err-kids-2-clause-gives c = passed_on reading.one reading.all c.from_residual-in_err-kids-2.result c.in_err-kids-2.field-0.0 _ _ c.from_residual-in_err-kids-2.ensures.1 (rw c.in_ok-kids.ensures at c.in_err-kids-2.ensures.gives) (λ none. declared_read c.args.items.now c.args.room c.args.at (c.args.at + 2) c.args.kind c.in_ok-ident.field-0 (sym c.if-not-is_name.ensures.test) c.in_ok-ident.ensures refl ∙ stated_none c.args.items.now c.args.kind c.args.at _ none)

pub returns-clause-gives : goal.returns-clause-gives
returns-clause-gives c = declared_read c.args.items.now c.args.room c.args.at (c.args.at + 2) c.args.kind c.in_ok-ident.field-0 (sym c.if-not-is_name.ensures.test) c.in_ok-ident.ensures refl ∙ stated_some c.args.items.now c.args.kind c.args.at c.in_ok-kids-2.end _ c.in_ok-kids-2.kids _ (rw c.in_ok-kids.ensures at c.in_ok-kids-2.ensures.gives) c.in_ok-plain.ensures
