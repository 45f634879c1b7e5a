use Rattle.std.proofs.Common.{arith, ◌<◌}
use Rattle.std.specs.Int.{w64}
use Rattle.std.proofs.lemmas.Nat.Bits.{bit_at-trailing_zeros}
use Rattle.flow_reach.proofs.spread.lowest.Goals as goal

pub returns-clause-has : goal.returns-clause-has
returns-clause-has c =
    let some : 0 < c.args.word = omega (arith, c.requires) in
    (bit_at-trailing_zeros w64 c.args.word some (omega (arith, c.ranges.word.fits))).1
