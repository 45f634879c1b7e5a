use Rattle.std.proofs.Common.{arith}
use Rattle.member_join.proofs.Blocks.{blocked_none, blocked_more, blocked_all}
use Rattle.member_join.proofs.block.blocks_of.Goals as goal

pub loop-from-init : goal.loop-from-init
loop-from-init c = blocked_none _ _ c.new-blocks.ensures.items

pub loop-from-preserved : goal.loop-from-preserved
loop-from-preserved c =
    let few = c.min.ensures in
    let more = c.loop-from-test.true in
    blocked_more _ c.loop-from.from _ _ _ c.in_ok-block_of.field-0 (omega arith) (omega (arith, few, more)) c.in_ok-push.ensures.items c.in_ok-block_of.ensures.members c.in_ok-block_of.ensures.block c.loop-from.invariant

pub returns-clause-whole : goal.returns-clause-whole
returns-clause-whole c = blocked_all _ _ _ c.loop-from-test.false c.loop-from.invariant
