use Rattle.std.proofs.Common.{ap}
use Rattle.std.specs.Prelude.{Vec}
use Rattle.std.specs.declared.alloc.Global.{Global}
use Rattle.node_match.proofs.Sets.{gathered}
use Rattle.member_join.specs.declared.state.State.{State}
use Rattle.sorted_sets.specs.Sizes.{Any}
use Rattle.member_join.specs.Blocks.{IsJoinedIn}
use Rattle.member_join.specs.Joins.{IsNeeded}
use Rattle.sorted_sets.proofs.Searches.{any_split}
use Rattle.member_join.proofs.Added.{gathered_as, ordered_sound}
use Rattle.member_join.proofs.join.join_blocks.Goals.{then-len-gt-ROOM+in_ok-states+else-count-gt-MOST_MEMBERS, else-len-gt-ROOM}
use Rattle.member_join.proofs.join.join_blocks.Goals as goal

pub returns-then-count-gt-MOST_MEMBERS-clause-sound : goal.returns-then-count-gt-MOST_MEMBERS-clause-sound
returns-then-count-gt-MOST_MEMBERS-clause-sound c s =
    ordered_sound _ _ _ _ (c.in_ok-states.ensures.same s)
    (gathered _ _ _ _ _ _ (c.in_ok-add_joined.ensures s) (any_split (λ (b : State). Any (IsJoinedIn c.args.role b s) c.args.blocks.now) _ _ (IsNeeded c.args.later.now s) _ c.loop-state-test.true c.state-item.is) (c.loop-state.invariant s))

pub loop-state-preserved : goal.loop-state-preserved
loop-state-preserved c s =
    let more = gathered _ _ _ _ _ _ (c.in_ok-add_joined.ensures s) (any_split (λ (b : State). Any (IsJoinedIn c.args.role b s) c.args.blocks.now) _ _ (IsNeeded c.args.later.now s) _ c.loop-state-test.true c.state-item.is) (c.loop-state.invariant s) in
    elim c.if-len-gt-ROOM.branch [
      | then-len-gt-ROOM+in_ok-states+else-count-gt-MOST_MEMBERS w ↦ gathered_as _ _ s _ _ (let e = ap (λ (v : Vec State Global). v.items) w.states-is in let f = w.in_ok-states.ensures.same s in rw e f) more
      | else-len-gt-ROOM w ↦ gathered_as _ _ s _ _ (let e = ap (λ (v : Vec State Global). v.items) w.states-is in rw e (λ a. a, λ a. a)) more
    ]
