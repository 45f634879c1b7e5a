use Rattle.std.proofs.Common.{drop}
use Rattle.file_results.specs.Needing.{Uses}
use Rattle.file_results.proofs.Somes.{NoneBefore}
use Rattle.file_results.proofs.needing.patterns_need.Given as goal

abbrev pub invariant-loop-pattern : goal.invariant-loop-pattern
invariant-loop-pattern g l = NoneBefore (Uses (g.F.MayHave.may l.file)) l.patterns (drop l.pattern-index l.patterns)
