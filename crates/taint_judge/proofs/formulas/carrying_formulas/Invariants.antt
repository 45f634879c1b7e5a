use Rattle.std.proofs.Common.{◌≡◌, take, map}
use Rattle.taint_judge.specs.Lists.{lent, formula_of}
use Rattle.taint_judge.proofs.formulas.carrying_formulas.Given as goal

abbrev pub invariant-loop-propagator : goal.invariant-loop-propagator
invariant-loop-propagator l = lent l.all.items ≡ map formula_of (take l.propagator-index l.propagators)
