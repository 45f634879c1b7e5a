use Rattle.std.proofs.Common.{◌↔◌, ◌<◌, ℕ}
use Rattle.graph_form.specs.Sets.{Among}
use Rattle.held_values.specs.Merged.{Concerns}
use Rattle.held_values.proofs.index.index_of.Given as goal

abbrev pub invariant-loop-place : goal.invariant-loop-place
invariant-loop-place l = (name at : ℕ) → Among l.pairs.items (name, at) ↔ ((at < l.place) × Concerns l.assigns name at)
