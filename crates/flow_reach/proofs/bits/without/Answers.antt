use Rattle.std.proofs.Common.{arith}
use Rattle.flow_reach.proofs.Words.{without_bits}
use Rattle.flow_reach.proofs.bits.without.Goals as goal

pub returns-clause-bits : goal.returns-clause-bits
returns-clause-bits c = without_bits c.args.bits c.args.others (omega (arith, c.ranges.bits.fits)) (omega (arith, c.ranges.others.fits))
