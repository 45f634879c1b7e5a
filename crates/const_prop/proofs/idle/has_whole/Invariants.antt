use Rattle.std.proofs.Common.{◌≡◌, false, take}
use Rattle.std.specs.List.{list_any}
use Rattle.assignments.specs.declared.assignment.Target.{Target}
use Rattle.const_prop.specs.Idle.{is_whole}
use Rattle.const_prop.proofs.idle.has_whole.Given as goal

abbrev pub invariant-loop-target : goal.invariant-loop-target
invariant-loop-target l = list_any (λ (t : Target). is_whole t.reach) (take l.target-index l.targets) ≡ false
