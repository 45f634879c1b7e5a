use Rattle.std.proofs.Common.{take, ◌↔◌, ◌≡◌, ℕ}
use Rattle.graph_form.specs.Sets.{Among}
use Rattle.flow_reach.specs.Carried.{Pairs}
use Rattle.flow_reach.proofs.search.at_entry.Given as goal

abbrev pub invariant-loop-fact : goal.invariant-loop-fact
invariant-loop-fact l = (point fact : ℕ) → Pairs l.pairs.items point fact ↔ ((point ≡ 0) × Among (take l.fact-index l.fact-items) fact)
