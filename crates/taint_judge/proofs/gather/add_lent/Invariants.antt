use Rattle.std.proofs.Common.{◌≡◌, ◌++◌, take}
use Rattle.taint_judge.proofs.gather.add_lent.Given as goal

abbrev pub invariant-loop-at : goal.invariant-loop-at
invariant-loop-at l = l.all.items ≡ l.initial.all.items ++ take l.at l.members
