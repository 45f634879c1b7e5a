use Rattle.std.proofs.Common.{◌≡◌, false, take}
use Rattle.std.specs.List.{list_any}
use Rattle.assignments.specs.declared.assignment.Assignment.{Assignment}
use Rattle.assignments.specs.Seen.{seen_assignment}
use Rattle.unit_effects.specs.Numbering.{entry_value}
use Rattle.const_prop.specs.Idle.{gives}
use Rattle.const_prop.proofs.idle.any_gives.Given as goal

abbrev pub invariant-loop-one : goal.invariant-loop-one
invariant-loop-one l = list_any (λ (a : Assignment). gives (entry_value l.entry) (seen_assignment a)) (take l.one-index l.list) ≡ false
