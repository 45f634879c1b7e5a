use Rattle.range_algebra.proofs.Taking.{Taken}
use Rattle.range_algebra.proofs.operand.operands.Given as goal

abbrev pub invariant-loop-number : goal.invariant-loop-number
invariant-loop-number l = Taken l.role l.children l.parts l.number l.operands.items
