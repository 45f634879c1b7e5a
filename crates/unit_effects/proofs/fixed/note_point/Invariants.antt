use Rattle.std.proofs.Common.{take}
use Rattle.std.specs.List.{flat_map}
use Rattle.assignments.specs.Seen.{all_assignments}
use Rattle.unit_effects.specs.Fixed as spec
use Rattle.unit_effects.specs.Once.{Notes}
use Rattle.unit_effects.proofs.fixed.note_point.Given as goal

abbrev pub invariant-loop-one : goal.invariant-loop-one
invariant-loop-one l = Notes l.initial.once (flat_map spec.occurrences (all_assignments (take l.one-index l.one-items))) l.once
