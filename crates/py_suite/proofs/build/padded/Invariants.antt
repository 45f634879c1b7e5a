use Rattle.std.proofs.Common.{◌≡◌, ◌-◌, ◌++◌}
use Rattle.py_suite.specs.Build as spec
use Rattle.py_suite.proofs.build.padded.Given as goal

abbrev pub invariant-loop-at : goal.invariant-loop-at
invariant-loop-at l = spec.padded l.fn.kind l.from l.fn.kids ≡ l.kids ++ spec.absents l.from (spec.arity l.fn.kind - l.at)
