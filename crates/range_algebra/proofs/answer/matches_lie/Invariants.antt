use Rattle.range_algebra.proofs.Regexes.{LieAll}
use Rattle.range_algebra.proofs.Firsts.{First}
use Rattle.range_algebra.proofs.answer.matches_lie.Given as goal

abbrev pub invariant-loop-one : goal.invariant-loop-one
invariant-loop-one l = First (LieAll l.text) l.one-items l.one-index
