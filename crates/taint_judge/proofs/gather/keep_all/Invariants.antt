use Rattle.std.proofs.Common.{◌≡◌, take}
use Rattle.taint_judge.proofs.gather.keep_all.Given as goal

abbrev pub invariant-loop-range : goal.invariant-loop-range
invariant-loop-range l = l.kept ≡ take l.range-index l.members
