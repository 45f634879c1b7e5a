use Rattle.std.proofs.Common.{◌≡◌, ◌++◌, map, take}
use Rattle.assignments.specs.Seen.{Named, all_targets}
use Rattle.taint_tables.specs.Censuses.{texts}
use Rattle.taint_tables.proofs.counting.add_targets.Given as goal

abbrev pub invariant-loop-target : goal.invariant-loop-target
invariant-loop-target l = texts l.into ≡ texts l.initial.into ++ map (λ (t : Named). t.name) (all_targets (take l.target-index l.targets))
