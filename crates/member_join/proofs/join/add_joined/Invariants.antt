use Rattle.std.proofs.Common.{◌↔◌, ◌⊎◌, drop}
use Rattle.node_match.specs.Sets.{Among}
use Rattle.member_join.specs.declared.state.State.{State}
use Rattle.sorted_sets.specs.Sizes.{Any}
use Rattle.member_join.specs.Blocks.{IsJoinedIn}
use Rattle.member_join.specs.Joins.{IsNeeded}
use Rattle.member_join.proofs.join.add_joined.Given as goal

abbrev pub invariant-loop-block : goal.invariant-loop-block
invariant-loop-block l =
    (s : State) → (Among l.states.items s ⊎ (Any (IsJoinedIn l.role l.state s) (drop l.block-index l.blocks) × IsNeeded l.later s)) ↔ (Among l.initial.states.items s ⊎ (Any (IsJoinedIn l.role l.state s) l.blocks × IsNeeded l.later s))
