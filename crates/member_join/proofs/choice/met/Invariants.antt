use Rattle.std.proofs.Common.{◌↔◌, ◌⊎◌, drop}
use Rattle.node_match.specs.Sets.{Among}
use Rattle.tree_match.specs.Members.{Member}
use Rattle.sorted_sets.specs.Sizes.{Any}
use Rattle.member_join.specs.Operands.{IsGivenBy}
use Rattle.member_join.proofs.choice.met.Given as goal

abbrev pub invariant-loop-state : goal.invariant-loop-state
invariant-loop-state l = (m : Member) → (Among l.members.items m ⊎ Any (IsGivenBy m) (drop l.state-index l.states)) ↔ Any (IsGivenBy m) l.states
