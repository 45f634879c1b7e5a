use Rattle.std.proofs.Common.{◌≡◌, take}
use Rattle.taint_judge.specs.Lists.{lent}
use Rattle.taint_judge.proofs.formulas.lent_formulas.Given as goal

abbrev pub invariant-loop-formula : goal.invariant-loop-formula
invariant-loop-formula l = lent l.all.items ≡ take l.formula-index l.formulas
