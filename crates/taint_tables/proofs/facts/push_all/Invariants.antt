use Rattle.std.proofs.Common.{◌↔◌, ◌⊎◌, ℕ, take}
use Rattle.graph_form.specs.Sets.{Among}
use Rattle.taint_tables.proofs.facts.push_all.Given as goal

abbrev pub invariant-loop-number : goal.invariant-loop-number
invariant-loop-number l = (x : ℕ) → Among l.into.items x ↔ (Among l.initial.into.items x ⊎ Among (take l.number-index l.numbers) x)
