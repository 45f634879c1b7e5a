use Rattle.std.proofs.Common.{◌↔◌, ◌⊎◌, ℕ, take}
use Rattle.graph_form.specs.Sets.{Among}
use Rattle.held_values.specs.Merged.{Assigns}
use Rattle.held_values.proofs.merging.list_names.Given as goal

abbrev pub invariant-loop-assign : goal.invariant-loop-assign
invariant-loop-assign l = (name : ℕ) → Among l.names.items name ↔ (Among l.initial.names.items name ⊎ Assigns (take l.assign-index l.node) name)
