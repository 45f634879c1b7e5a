use Rattle.std.proofs.Common.{◌≤◌, count_by}
use Rattle.std.specs.Prelude.{Vec}
use Rattle.std.specs.declared.alloc.Global.{Global}
use Rattle.std.proofs.lemmas.Result.{IfOk-weaker}
use Rattle.node_match.specs.Sets.{Among}
use Rattle.member_join.specs.declared.state.State.{State}
use Rattle.member_join.specs.Agreements.{has_bytes}
use Rattle.member_join.specs.Blocks.{IsJoinedToBlocks}
use Rattle.member_join.specs.Joins.{IsJoined, IsNeeded}
use Rattle.member_join.proofs.Blocks.{in_blocks}
use Rattle.member_join.proofs.join.join.Goals as goal

pub returns-clause-sound : goal.returns-clause-sound
returns-clause-sound c =
    let blocks = c.as_slice-4.result.now in
    IfOk-weaker c.join_blocks.result
    (λ (v : Vec State Global). (s : State) → Among v.items s → IsJoinedToBlocks c.args.role c.args.before.now blocks s × IsNeeded c.args.later.now s)
    (λ (v : Vec State Global). (s : State) → Among v.items s → IsJoined c.args.role c.args.before.now c.args.members.now s × IsNeeded c.args.later.now s)
    (λ v h s a. ((in_blocks c.args.role c.args.before.now c.args.members.now _ _ _ blocks s c.as_slice-3.ensures.value c.as_slice-4.ensures.value c.in_ok-sorted.ensures c.in_ok-blocks.ensures.whole).0 (h s a).0, (h s a).1))
    c.join_blocks.ensures.sound

pub returns-clause-whole : goal.returns-clause-whole
returns-clause-whole c =
    let blocks = c.as_slice-4.result.now in
    IfOk-weaker c.join_blocks.result
    (λ (v : Vec State Global). count_by (λ (s : State). has_bytes s.range) v.items ≤ 10000 → (s : State) → IsJoinedToBlocks c.args.role c.args.before.now blocks s → IsNeeded c.args.later.now s → Among v.items s)
    (λ (v : Vec State Global). count_by (λ (s : State). has_bytes s.range) v.items ≤ 10000 → (s : State) → IsJoined c.args.role c.args.before.now c.args.members.now s → IsNeeded c.args.later.now s → Among v.items s)
    (λ v h few s j n. h few s ((in_blocks c.args.role c.args.before.now c.args.members.now _ _ _ blocks s c.as_slice-3.ensures.value c.as_slice-4.ensures.value c.in_ok-sorted.ensures c.in_ok-blocks.ensures.whole).1 j) n)
    c.join_blocks.ensures.whole
