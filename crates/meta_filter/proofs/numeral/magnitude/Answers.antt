use Rattle.std.proofs.Common.{arith}
use Rattle.meta_filter.proofs.Numbers.{with_digit}
use Rattle.meta_filter.proofs.numeral.magnitude.Goals as goal

pub returns-in_default : goal.returns-in_default
returns-in_default c = λ small. c.in_default.ensures (omega (arith, small, c.loop-byte.invariant.left, with_digit c.args.radix c.loop-byte.value c.args.text.now c.loop-byte.byte-index c.requires c.loop-byte-test.true c.if-byte-ne95.true))
