use Rattle.std.proofs.Common.{◌↔◌, ◌+◌, ℕ, take}
use Rattle.graph_form.specs.Sets.{Among}
use Rattle.taint_flow.proofs.split.names_of.Given as goal

abbrev pub invariant-loop-fact : goal.invariant-loop-fact
invariant-loop-fact l = (name : ℕ) → Among l.names name ↔ Among (take l.fact-index l.facts) (l.sources + name)
