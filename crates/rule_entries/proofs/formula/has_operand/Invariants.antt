use Rattle.std.proofs.Common.{◌≡◌, drop}
use Rattle.rule_entries.specs.Formulas.{has_operand}
use Rattle.rule_entries.proofs.formula.has_operand.Given as goal

abbrev pub invariant-loop-child : goal.invariant-loop-child
invariant-loop-child l = has_operand l.children ≡ has_operand (drop l.child-index l.children)
