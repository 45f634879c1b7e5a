use Rattle.std.proofs.Common.{◌↔◌, ◌+◌, ℕ, take}
use Rattle.graph_form.specs.Sets.{Among}
use Rattle.taint_flow.proofs.split.pairs_of.Given as goal

abbrev pub invariant-loop-pair : goal.invariant-loop-pair
invariant-loop-pair l = (from to : ℕ) → Among l.pairs (from, to) ↔ Among (take l.pair-index l.facts) (l.sources + from, l.sources + to)
