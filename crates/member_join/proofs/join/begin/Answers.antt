use Rattle.std.proofs.Common.{◌≡◌}
use Rattle.node_match.proofs.Sets.{gathered, gathered_all, plus_as}
use Rattle.member_join.specs.Joins.{begun, IsNeeded}
use Rattle.sorted_sets.proofs.Searches.{any_split, any_none}
use Rattle.member_join.proofs.Added.{if_ok_same, same_first}
use Rattle.member_join.proofs.join.begin.Goals as goal

pub loop-member-preserved : goal.loop-member-preserved
loop-member-preserved c s =
    gathered _ _ _ _ _ _ (plus_as _ _ _ _ (c.in_ok-add_needed.ensures s) (same_first _ _ s (IsNeeded c.args.later.now s) c.in_ok-begun.ensures))
    (any_split (λ m. begun m ≡ s) _ _ (IsNeeded c.args.later.now s) _ c.loop-member-test.true c.member-item.is) (c.loop-member.invariant s)

pub returns-clause-exact : goal.returns-clause-exact
returns-clause-exact c =
    if_ok_same (λ v. v.items) _ _ _ c.settled.ensures.same (λ s. gathered_all _ _ _ (any_none (λ m. begun m ≡ s) _ _ (IsNeeded c.args.later.now s) c.loop-member-test.false) (c.loop-member.invariant s))
