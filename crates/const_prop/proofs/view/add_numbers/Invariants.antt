use Rattle.std.proofs.Common.{[], ◌∷◌, take}
use Rattle.std.specs.Prelude.{if◌then◌else◌}
use Rattle.std.specs.List.{flat_map}
use Rattle.assignments.specs.Seen.{Named, all_targets}
use Rattle.unit_names.specs.Names.{is_assigned}
use Rattle.const_prop.specs.Views.{AddsNumbers}
use Rattle.const_prop.proofs.view.add_numbers.Given as goal

abbrev pub invariant-loop-target : goal.invariant-loop-target
invariant-loop-target l = AddsNumbers l.initial.numbers (flat_map (λ (t : Named). if is_assigned t.reach then t.at ∷ [] else []) (all_targets (take l.target-index l.target-items))) l.numbers
