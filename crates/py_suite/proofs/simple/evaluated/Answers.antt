use Rattle.std.proofs.Common.{arith, sym, refl, ◌∙◌}
use Rattle.node_tree.specs.declared.kind.Kind.TheVariants as k
use Rattle.py_suite.specs.reader.Reading as reading
use Rattle.py_suite.proofs.Forms.{values_read, augmented_read, collected_some, collected_none, passed_on}
use Rattle.py_suite.proofs.simple.evaluated.Goals as goal

pub returns-in_err-kids-2-clause-gives : goal.returns-in_err-kids-2-clause-gives
returns-in_err-kids-2-clause-gives c = passed_on reading.one reading.all c.from_residual-in_err-kids-2.result c.in_err-kids-2.field-0.0 _ _ c.from_residual-in_err-kids-2.ensures.1 (rw c.in_ok-kids.ensures at c.in_err-kids-2.ensures.gives) (λ none. values_read c.args.items.now c.args.room c.args.at c.in_ok-first.end c.in_ok-second.end c.in_ok-first.first c.in_ok-second.second (grind (arith, c.if-room-eq0.false)) c.in_ok-first.ensures.gives (sym c.if-is.ensures.test) c.in_ok-second.ensures.gives ∙ collected_none c.args.items.now k.Assign c.args.at _ none)

pub returns-then-is-clause-gives : goal.returns-then-is-clause-gives
returns-then-is-clause-gives c = values_read c.args.items.now c.args.room c.args.at c.in_ok-first.end c.in_ok-second.end c.in_ok-first.first c.in_ok-second.second (grind (arith, c.if-room-eq0.false)) c.in_ok-first.ensures.gives (sym c.if-is.ensures.test) c.in_ok-second.ensures.gives ∙ collected_some c.args.items.now k.Assign c.args.at c.in_ok-kids-2.end _ c.in_ok-kids-2.kids _ refl (rw c.in_ok-kids.ensures at c.in_ok-kids-2.ensures.gives) c.in_ok-plain.ensures

pub returns-then-is-2-clause-gives : goal.returns-then-is-2-clause-gives
returns-then-is-2-clause-gives c = augmented_read c.args.items.now c.args.room c.args.at c.in_ok-first.end c.in_ok-value.end c.in_ok-first.first c.in_ok-value.value c.in_ok-node.node (grind (arith, c.if-room-eq0.false)) c.in_ok-first.ensures.gives (sym c.if-is.ensures.test) (sym c.if-is-2.ensures.test) c.in_ok-value.ensures.gives (grind arith)
