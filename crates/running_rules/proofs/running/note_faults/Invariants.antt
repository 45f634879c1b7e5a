use Rattle.std.proofs.Common.{◌≡◌, ◌++◌, drop}
use Rattle.std.specs.List.{flat_map}
use Rattle.running_rules.specs.Running.{fault_notices}
use Rattle.running_rules.proofs.running.note_faults.Given as goal

abbrev pub invariant-loop-outcome : goal.invariant-loop-outcome
invariant-loop-outcome l = l.notices.items ++ flat_map (fault_notices l.file) (drop l.outcome-index l.outcomes) ≡ l.fn.notices.items ++ flat_map (fault_notices l.file) l.outcomes
