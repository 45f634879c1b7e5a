use Rattle.std.proofs.Common.{length}
use Rattle.seen_files.proofs.Stacks.{Taking}
use Rattle.seen_files.proofs.walk.take_at.Given as goal

abbrev pub invariant-loop-next : goal.invariant-loop-next
invariant-loop-next l = Taking l.path l.initial.left l.left

abbrev pub decreases-loop-next : goal.decreases-loop-next
decreases-loop-next l = length l.left
