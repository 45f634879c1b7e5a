use Rattle.std.proofs.Common.{◌↔◌, ◌⊎◌, take}
use Rattle.graph_form.specs.Sets.{Among}
use Rattle.held_values.specs.declared.targets.Target.{Target}
use Rattle.held_values.specs.Merged.{GivesAt}
use Rattle.held_values.proofs.merged.Merged.give.Given as goal

abbrev pub invariant-loop-place : goal.invariant-loop-place
invariant-loop-place l = (target : Target) → Among l.targets.items target ↔ (Among l.initial.targets.items target ⊎ GivesAt l.self.assigns.items (take l.place-index l.places) l.name l.value target.name target.value)
