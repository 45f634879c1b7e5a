use Rattle.std.proofs.Common.{◌↔◌, ◌⊎◌, ℕ, take}
use Rattle.graph_form.specs.Sets.{Among}
use Rattle.taint_plan.proofs.carrying.add_pairs.Given as goal

abbrev pub invariant-loop-first : goal.invariant-loop-first
invariant-loop-first l = (from to : ℕ) → Among l.into.items (from, to) ↔ (Among l.initial.into.items (from, to) ⊎ (Among (take l.first-index l.firsts) from × Among l.seconds to))
