use Rattle.std.proofs.Common.{take}
use Rattle.std.specs.List.{flat_map}
use Rattle.unit_effects.specs.Fixed as spec
use Rattle.unit_effects.specs.Once.{Notes}
use Rattle.unit_effects.proofs.fixed.note_scope.Given as goal

abbrev pub invariant-loop-point : goal.invariant-loop-point
invariant-loop-point l = Notes l.initial.once (flat_map (spec.occurrences_at l.tree) (take l.point-index l.point-items)) l.once
