use Rattle.std.proofs.Common.{take, ◌↔◌, ℕ}
use Rattle.graph_form.specs.Sets.{Among}
use Rattle.flow_reach.specs.Adds.{Coded}
use Rattle.flow_reach.proofs.pairs.sorted_pairs.Given as goal

abbrev pub invariant-loop-pair : goal.invariant-loop-pair
invariant-loop-pair l = (f h : ℕ) → Coded l.sorted.items f h ↔ Among (take l.pair-index l.pairs) (f, h)
