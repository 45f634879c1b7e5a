use Rattle.std.proofs.Common.{◌↔◌, ◌⊎◌, drop}
use Rattle.node_match.specs.Sets.{Among}
use Rattle.member_join.specs.declared.state.State.{State}
use Rattle.member_join.specs.Blocks.{IsJoinedToBlocks}
use Rattle.member_join.specs.Joins.{IsNeeded}
use Rattle.member_join.proofs.join.join_blocks.Given as goal

abbrev pub invariant-loop-state : goal.invariant-loop-state
invariant-loop-state l =
    (s : State) → (Among l.states.items s ⊎ (IsJoinedToBlocks l.role (drop l.state-index l.before) l.blocks s × IsNeeded l.later s)) ↔ (IsJoinedToBlocks l.role l.before l.blocks s × IsNeeded l.later s)
