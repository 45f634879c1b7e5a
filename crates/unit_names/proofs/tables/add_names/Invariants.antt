use Rattle.std.proofs.Common.{◌≡◌, ◌++◌, take}
use Rattle.std.specs.List.{flat_map}
use Rattle.unit_names.specs.Seen.{all_words}
use Rattle.unit_names.specs.Names as spec
use Rattle.unit_names.proofs.tables.add_names.Given as goal

abbrev pub invariant-loop-point : goal.invariant-loop-point
invariant-loop-point l = all_words l.into ≡ all_words l.initial.into ++ flat_map (spec.names_at l.tree) (take l.point-index l.point-items)
