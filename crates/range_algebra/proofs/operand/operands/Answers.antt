use Rattle.range_algebra.proofs.Taking.{taken_start, taken_end}
use Rattle.range_algebra.proofs.operand.operands.Goals as goal

pub loop-number-init : goal.loop-number-init
loop-number-init c = taken_start _ _ _ _ c.new-operands.ensures.items

pub returns : goal.returns
returns c = taken_end _ _ _ _ _ c.loop-number-test.false c.loop-number.invariant
