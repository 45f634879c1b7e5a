use Rattle.std.proofs.Common.{◌≡◌, take}
use Rattle.rule_form.proofs.formula.+same_formula.Given as goal

abbrev pub invariant-same_children-loop-i : goal.invariant-same_children-loop-i
invariant-same_children-loop-i l = take l.i l.a ≡ take l.i l.b

abbrev pub invariant-same_formulas-loop-i : goal.invariant-same_formulas-loop-i
invariant-same_formulas-loop-i l = take l.i l.a ≡ take l.i l.b
