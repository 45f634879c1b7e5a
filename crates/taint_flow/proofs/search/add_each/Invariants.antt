use Rattle.std.proofs.Common.{◌≡◌, ◌↔◌, ◌⊎◌, ℕ, take}
use Rattle.graph_form.specs.Sets.{Among}
use Rattle.taint_flow.proofs.search.add_each.Given as goal

abbrev pub invariant-loop-point : goal.invariant-loop-point
invariant-loop-point l = (to other : ℕ) → Among l.into.items (to, other) ↔ (Among l.initial.into.items (to, other) ⊎ (Among (take l.point-index l.points) to × (l.name ≡ other)))
