use Rattle.std.proofs.Common.{arith, refl, ◌∙◌}
use Rattle.node_tree.specs.declared.kind.Kind.TheVariants as k
use Rattle.py_suite.specs.reader.Reading as reading
use Rattle.py_suite.proofs.Forms.{aliases_read, collected_some, collected_none, passed_on}
use Rattle.py_suite.proofs.imports.aliases.Goals as goal

pub returns-in_err-kids-2-clause-gives : goal.returns-in_err-kids-2-clause-gives
returns-in_err-kids-2-clause-gives c = passed_on reading.one reading.all c.from_residual-in_err-kids-2.result c.in_err-kids-2.field-0.0 _ _ c.from_residual-in_err-kids-2.ensures.1 (rw c.in_ok-kids.ensures at c.in_err-kids-2.ensures.gives) (λ none. aliases_read c.args.items.now c.args.room c.args.at c.in_ok-first.end c.in_ok-first.first (grind (arith, c.if-room-eq0.false)) c.in_ok-first.ensures.gives ∙ collected_none c.args.items.now k.List c.args.at _ none)

pub returns-clause-gives : goal.returns-clause-gives
returns-clause-gives c = aliases_read c.args.items.now c.args.room c.args.at c.in_ok-first.end c.in_ok-first.first (grind (arith, c.if-room-eq0.false)) c.in_ok-first.ensures.gives ∙ collected_some c.args.items.now k.List c.args.at c.in_ok-kids-2.end _ c.in_ok-kids-2.kids _ refl (rw c.in_ok-kids.ensures at c.in_ok-kids-2.ensures.gives) c.in_ok-plain.ensures
