use Rattle.std.proofs.Common.{take}
use Rattle.std.specs.List.{flat_map}
use Rattle.assignments.specs.Seen.{all_targets, seen_value}
use Rattle.unit_effects.specs.Fixed as spec
use Rattle.unit_effects.specs.Once.{Notes}
use Rattle.unit_effects.proofs.fixed.note_targets.Given as goal

abbrev pub invariant-loop-target : goal.invariant-loop-target
invariant-loop-target l = Notes l.initial.once (flat_map (spec.occurrence l.one.manner (seen_value l.one.value)) (all_targets (take l.target-index l.target-items))) l.once
