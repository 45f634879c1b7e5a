use Rattle.std.proofs.Common.{◌≡◌, ◌++◌, drop}
use Rattle.taint_judge.specs.Lists.{together}
use Rattle.taint_judge.proofs.gather.lent_members.Given as goal

abbrev pub invariant-loop-members : goal.invariant-loop-members
invariant-loop-members l = l.all.items ++ together (drop l.members-index l.each) ≡ together l.each
