use Rattle.std.proofs.Common.{◌≡◌, false, take}
use Rattle.std.specs.List.{list_any}
use Rattle.unit_effects.specs.Numbering.{entry_value}
use Rattle.const_prop.specs.Idle.{is_given_at}
use Rattle.const_prop.proofs.idle.is_given.Given as goal

abbrev pub invariant-loop-point : goal.invariant-loop-point
invariant-loop-point l = list_any (is_given_at l.tree (entry_value l.entry)) (take l.point-index l.point-items) ≡ false
