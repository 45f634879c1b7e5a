use Rattle.std.proofs.Common.{ℕ, List, drop}
use Rattle.file_results.specs.Looking.{GlobMatches}
use Rattle.file_results.proofs.Somes.{NoneBefore}
use Rattle.file_results.proofs.looking.some_fits.Given as goal

abbrev pub invariant-loop-glob : goal.invariant-loop-glob
invariant-loop-glob l = let P : List ℕ → Type 0 = λ x. GlobMatches x l.path in NoneBefore P l.glob-items (drop l.glob-index l.glob-items)
