use Rattle.std.proofs.Common.{◌≡◌, ◌⊎◌, ◌↔◌, ℕ, take, length}
use Rattle.flow_reach.specs.Bits.{Has}
use Rattle.flow_reach.specs.Spread.{At}
use Rattle.flow_reach.proofs.dropped.put_facts.Given as goal

abbrev pub invariant-loop-fact : goal.invariant-loop-fact
invariant-loop-fact l = record {
  room : length l.set.items ≡ length l.initial.set.items;
  has : (k : ℕ) → Has l.set.items k ↔ (Has l.initial.set.items k ⊎ At l.base (take l.fact-index l.facts) k);
}
