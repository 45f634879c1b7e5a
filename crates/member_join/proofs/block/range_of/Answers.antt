use Rattle.member_join.proofs.Blocks.{reach_more, reach_all}
use Rattle.member_join.proofs.block.range_of.Goals as goal

pub loop-member-init : goal.loop-member-init
loop-member-init c = record { begins = λ m k. elim k [ ]; ends = λ m k. elim k [ ] }

pub loop-member-preserved : goal.loop-member-preserved
loop-member-preserved c = reach_more _ _ c.member-item.result c.loop-member.range _ c.loop-member-test.true c.member-item.is c.min.ensures c.max.ensures c.loop-member.invariant

pub returns : goal.returns
returns c = reach_all _ _ _ c.loop-member-test.false c.loop-member.invariant
