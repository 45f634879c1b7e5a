use Rattle.std.proofs.Common.{◌≡◌, ◌↔◌, ◌⊎◌, ℕ, take}
use Rattle.graph_form.specs.Sets.{Among}
use Rattle.taint_form.proofs.origins.Origins.add_pairs.Given as goal

abbrev pub invariant-loop-origin : goal.invariant-loop-origin
invariant-loop-origin l = (from to : ℕ) → Among l.adds (from, to) ↔ (Among l.initial.adds (from, to) ⊎ ((l.fact ≡ to) × Among (take l.origin-index l.origin-items) from))
