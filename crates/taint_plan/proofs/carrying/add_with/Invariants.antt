use Rattle.std.proofs.Common.{◌≡◌, ◌↔◌, ◌⊎◌, ℕ, take}
use Rattle.graph_form.specs.Sets.{Among}
use Rattle.taint_plan.proofs.carrying.add_with.Given as goal

abbrev pub invariant-loop-second : goal.invariant-loop-second
invariant-loop-second l = (from to : ℕ) → Among l.into.items (from, to) ↔ (Among l.initial.into.items (from, to) ⊎ ((l.first ≡ from) × Among (take l.second-index l.seconds) to))
