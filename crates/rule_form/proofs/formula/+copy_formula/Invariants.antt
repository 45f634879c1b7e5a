use Rattle.std.proofs.Common.{◌≡◌, take}
use Rattle.rule_form.proofs.formula.+copy_formula.Given as goal

abbrev pub invariant-copy_children-loop-child : goal.invariant-copy_children-loop-child
invariant-copy_children-loop-child l = l.copies ≡ take l.child-index l.child-items

abbrev pub invariant-copy_formulas-loop-formula : goal.invariant-copy_formulas-loop-formula
invariant-copy_formulas-loop-formula l = l.copies ≡ take l.formula-index l.formula-items
