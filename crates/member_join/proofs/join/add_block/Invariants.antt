use Rattle.std.proofs.Common.{◌↔◌, ◌⊎◌, drop}
use Rattle.node_match.specs.Sets.{Among}
use Rattle.member_join.specs.declared.state.State.{State}
use Rattle.member_join.specs.Joins.{IsJoinedFrom, IsNeeded}
use Rattle.member_join.proofs.join.add_block.Given as goal

abbrev pub invariant-loop-member : goal.invariant-loop-member
invariant-loop-member l =
    (s : State) → (Among l.states.items s ⊎ (IsJoinedFrom l.role l.state (drop l.member-index l.block.members.now) s × IsNeeded l.later s)) ↔ (Among l.initial.states.items s ⊎ (IsJoinedFrom l.role l.state l.block.members.now s × IsNeeded l.later s))
