use Rattle.std.proofs.Common.{take}
use Rattle.held_values.specs.Merged.{IsToAt}
use Rattle.held_values.proofs.merged.Merged.assigns_to.Given as goal

abbrev pub invariant-loop-place : goal.invariant-loop-place
invariant-loop-place l = IsToAt l.self.assigns.items (take l.place-index l.places) l.name → ⊥
