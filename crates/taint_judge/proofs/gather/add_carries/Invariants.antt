use Rattle.std.proofs.Common.{◌≡◌, ◌++◌, take}
use Rattle.std.specs.List.{flat_map}
use Rattle.taint_judge.specs.Carries.{carry_at}
use Rattle.taint_judge.proofs.gather.add_carries.Given as goal

abbrev pub invariant-loop-at : goal.invariant-loop-at
invariant-loop-at l = l.carries ≡ l.initial.carries ++ flat_map (carry_at l.propagator) (take l.at l.members)
