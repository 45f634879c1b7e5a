use Rattle.std.proofs.Common.{◌≡◌, ◌-◌}
use Rattle.py_suite.specs.Build as spec
use Rattle.py_suite.proofs.build.code_end.Given as goal

abbrev pub invariant-loop-back : goal.invariant-loop-back
invariant-loop-back l = spec.code_end l.items l.at ≡ spec.code_end l.items (l.at - l.back)
