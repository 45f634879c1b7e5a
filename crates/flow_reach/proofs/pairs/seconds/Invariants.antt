use Rattle.std.proofs.Common.{◌⊎◌, ◌↔◌, ◌≤◌, ◌<◌, ◌*◌, ◌-◌, ℕ, length, get_or}
use Rattle.graph_form.specs.Sets.{Among}
use Rattle.flow_reach.specs.Adds.{CodedTo}
use Rattle.flow_reach.proofs.pairs.seconds.Given as goal

abbrev pub invariant-loop-at : goal.invariant-loop-at
invariant-loop-at l = record {
  exact : (after : ℕ) → Among l.into.items after ↔ (Among l.initial.into.items after ⊎ CodedTo l.pairs l.at l.first after);
  above : (k : ℕ) → l.at ≤ k → k < length l.pairs → l.first * 4294967296 ≤ get_or l.pairs k 0;
}

abbrev pub decreases-loop-at : goal.decreases-loop-at
decreases-loop-at l = length l.pairs - l.at
