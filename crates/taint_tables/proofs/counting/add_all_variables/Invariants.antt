use Rattle.std.proofs.Common.{◌≡◌, ◌++◌, take}
use Rattle.std.specs.List.{flat_map}
use Rattle.assignments.specs.Seen.{all_assignments}
use Rattle.taint_tables.specs.Censuses.{texts}
use Rattle.taint_tables.specs.Names.{variables_of}
use Rattle.taint_tables.proofs.counting.add_all_variables.Given as goal

abbrev pub invariant-loop-one : goal.invariant-loop-one
invariant-loop-one l = texts l.into ≡ texts l.initial.into ++ flat_map variables_of (all_assignments (take l.one-index l.list))
