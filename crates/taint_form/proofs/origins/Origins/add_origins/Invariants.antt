use Rattle.std.proofs.Common.{◌↔◌, ◌⊎◌, take, ℕ}
use Rattle.graph_form.specs.Sets.{Among}
use Rattle.taint_form.proofs.origins.Origins.add_origins.Given as goal

abbrev pub invariant-loop-origin : goal.invariant-loop-origin
invariant-loop-origin l = (from : ℕ) → Among l.into.items from ↔ (Among l.initial.into.items from ⊎ Among (take l.origin-index l.origin-items) from)
