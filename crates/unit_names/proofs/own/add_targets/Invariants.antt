use Rattle.std.proofs.Common.{◌≡◌, ◌++◌, take}
use Rattle.std.specs.List.{flat_map}
use Rattle.unit_names.specs.Seen.{all_words}
use Rattle.unit_names.specs.Names as spec
use Rattle.assignments.specs.Seen.{all_targets}
use Rattle.unit_names.proofs.own.add_targets.Given as goal

abbrev pub invariant-loop-target : goal.invariant-loop-target
invariant-loop-target l = all_words l.into ≡ all_words l.initial.into ++ flat_map (spec.target_word) (all_targets (take l.target-index l.target-items))
