use Rattle.std.proofs.Common.{◌≡◌, ◌≤◌, take, count_by}
use Rattle.member_join.specs.declared.state.State.{State}
use Rattle.member_join.specs.Agreements.{has_bytes}
use Rattle.member_join.proofs.join.count.Given as goal

abbrev pub invariant-loop-state : goal.invariant-loop-state
invariant-loop-state l = (l.many ≡ count_by (λ (s : State). has_bytes s.range) (take l.state-index l.states)) × (l.many ≤ l.state-index)
