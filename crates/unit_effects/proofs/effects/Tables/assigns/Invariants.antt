use Rattle.std.proofs.Common.{◌≡◌, take}
use Rattle.std.specs.List.{flat_map}
use Rattle.assignments.specs.Seen.{all_targets}
use Rattle.unit_effects.specs.Numbering as nums
use Rattle.unit_effects.proofs.effects.Tables.assigns.Given as goal

abbrev pub invariant-loop-target : goal.invariant-loop-target
invariant-loop-target l = l.assigns ≡ flat_map (nums.target_assigns l.self.names.now (nums.hides l.entry) l.source) (all_targets (take l.target-index l.target-items))
