use Rattle.std.proofs.Common.{◌≡◌, ◌++◌, drop}
use Rattle.taint_judge.specs.Carries.{carries_in}
use Rattle.taint_judge.proofs.gather.carries_of.Given as goal

abbrev pub invariant-loop-i : goal.invariant-loop-i
invariant-loop-i l = l.carries ++ carries_in (drop l.i l.propagators) (drop l.i l.each) ≡ carries_in l.propagators l.each
