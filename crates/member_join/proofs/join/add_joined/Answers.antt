use Rattle.node_match.proofs.Sets.{among_at}
use Rattle.node_match.proofs.Sets.{gathered, gathered_all}
use Rattle.member_join.specs.Blocks.{IsJoinedIn}
use Rattle.member_join.specs.Joins.{IsNeeded}
use Rattle.sorted_sets.proofs.Searches.{any_split, any_none}
use Rattle.member_join.proofs.join.add_joined.Goals as goal

pub add_block-requires : goal.add_block-requires
add_block-requires c = record { block = c.requires.blocks _ (among_at _ _ _ c.loop-block-test.true c.block-item.is) }

pub loop-block-preserved : goal.loop-block-preserved
loop-block-preserved c s =
    gathered _ _ _ _ _ _ (c.in_ok-add_block.ensures s) (any_split (IsJoinedIn c.args.role c.args.state.now s) _ _ (IsNeeded c.args.later.now s) _ c.loop-block-test.true c.block-item.is) (c.loop-block.invariant s)

pub returns : goal.returns
returns c s = gathered_all _ _ _ (any_none (IsJoinedIn c.args.role c.args.state.now s) _ _ (IsNeeded c.args.later.now s) c.loop-block-test.false) (c.loop-block.invariant s)
