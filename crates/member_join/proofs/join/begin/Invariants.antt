use Rattle.std.proofs.Common.{◌≡◌, ◌↔◌, ◌⊎◌, drop}
use Rattle.node_match.specs.Sets.{Among}
use Rattle.member_join.specs.declared.state.State.{State}
use Rattle.sorted_sets.specs.Sizes.{Any}
use Rattle.member_join.specs.Joins.{begun, IsNeeded}
use Rattle.member_join.proofs.join.begin.Given as goal

abbrev pub invariant-loop-member : goal.invariant-loop-member
invariant-loop-member l =
    (s : State) → (Among l.states.items s ⊎ (Any (λ m. begun m ≡ s) (drop l.member-index l.members) × IsNeeded l.later s)) ↔ (Any (λ m. begun m ≡ s) l.members × IsNeeded l.later s)
