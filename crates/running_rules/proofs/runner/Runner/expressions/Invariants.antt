use Rattle.std.proofs.Common.{◌≡◌, take}
use Rattle.running_rules.proofs.runner.Runner.expressions.Given as goal

abbrev pub invariant-loop-one : goal.invariant-loop-one
invariant-loop-one l = l.expressions ≡ take l.one-index l.one-items
