use Rattle.std.proofs.Common.{arith}
use Rattle.std.proofs.Math.Nat.{mul_assoc}
use Rattle.flow_reach.proofs.Grow.{grows_then}
use Rattle.flow_reach.proofs.spread.follow.Goals as goal

pub add-requires-clause-small : goal.add-requires-clause-small
add-requires-clause-small c point among = omega (arith, c.requires.words point among, c.requires.shaped.small, mul_assoc point c.args.batch.width 64)

pub add-requires-clause-room : goal.add-requires-clause-room
add-requires-clause-room c k h = omega (arith, c.requires.room k h, c.in_ok-keep.ensures.room)

pub returns : goal.returns
returns c = grows_then _ _ _ _ _ _ c.in_ok-keep.ensures c.in_ok-add.ensures (λ k. (λ h. h, λ h. h))
