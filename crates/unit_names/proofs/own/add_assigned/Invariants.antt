use Rattle.std.proofs.Common.{◌≡◌, ◌++◌, take}
use Rattle.std.specs.List.{flat_map}
use Rattle.unit_names.specs.Seen.{all_words}
use Rattle.unit_names.specs.Names as spec
use Rattle.assignments.specs.Seen.{all_assignments}
use Rattle.unit_names.proofs.own.add_assigned.Given as goal

abbrev pub invariant-loop-one : goal.invariant-loop-one
invariant-loop-one l = all_words l.into ≡ all_words l.initial.into ++ flat_map (spec.target_words) (all_assignments (take l.one-index l.one-items))
