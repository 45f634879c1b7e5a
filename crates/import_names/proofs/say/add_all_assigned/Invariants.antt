use Rattle.std.proofs.Common.{◌≡◌, ◌++◌, take}
use Rattle.std.specs.List.{flat_map}
use Rattle.assignments.specs.Seen.{all_assignments}
use Rattle.import_names.specs.Claims as spec
use Rattle.import_names.proofs.say.add_all_assigned.Given as goal

abbrev pub invariant-loop-one : goal.invariant-loop-one
invariant-loop-one l = l.into.items ≡ l.initial.into.items ++ flat_map spec.assigned_claims (all_assignments (take l.one-index l.one-items))
