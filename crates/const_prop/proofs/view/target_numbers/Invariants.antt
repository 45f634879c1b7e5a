use Rattle.std.proofs.Common.{take}
use Rattle.std.specs.List.{flat_map}
use Rattle.assignments.specs.Seen.{all_assignments}
use Rattle.const_prop.specs.Constants.{numbers_in}
use Rattle.const_prop.specs.Views.{AddsNumbers}
use Rattle.const_prop.proofs.view.target_numbers.Given as goal

abbrev pub invariant-loop-one : goal.invariant-loop-one
invariant-loop-one l = AddsNumbers l.initial.numbers (flat_map numbers_in (all_assignments (take l.one-index l.one-items))) l.numbers
