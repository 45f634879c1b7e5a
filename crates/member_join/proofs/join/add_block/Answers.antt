use Rattle.node_match.proofs.Sets.{gathered, gathered_all, adds_none}
use Rattle.member_join.specs.Joins.{IsJoinedWith, IsNeeded}
use Rattle.sorted_sets.proofs.Searches.{any_split, any_none}
use Rattle.member_join.proofs.Blocks.{none_apart}
use Rattle.member_join.proofs.join.add_block.Goals as goal

pub returns-then-not-may_meet : goal.returns-then-not-may_meet
returns-then-not-may_meet c = adds_none _ _ (λ s. none_apart c.args.role c.args.state.now c.args.block.now.members.now c.args.later.now s (c.may_meet.ensures c.if-not-may_meet.true))

pub loop-member-preserved : goal.loop-member-preserved
loop-member-preserved c s =
    gathered _ _ _ _ _ _ (c.in_ok-add_one.ensures s) (any_split (IsJoinedWith c.args.role c.args.state.now s) _ _ (IsNeeded c.args.later.now s) _ c.loop-member-test.true c.member-item.is) (c.loop-member.invariant s)

pub returns : goal.returns
returns c s = gathered_all _ _ _ (any_none (IsJoinedWith c.args.role c.args.state.now s) _ _ (IsNeeded c.args.later.now s) c.loop-member-test.false) (c.loop-member.invariant s)
