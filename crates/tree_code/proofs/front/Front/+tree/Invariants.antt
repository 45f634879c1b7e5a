use Rattle.std.proofs.Common.{length}
use Rattle.tree_code.proofs.Reading.{Taken}
use Rattle.tree_code.proofs.front.Front.+tree.Given as goal

abbrev pub decreases-tree : goal.decreases-tree
decreases-tree l = length l.self.now.rest.now

abbrev pub invariant-loop-i : goal.invariant-loop-i
invariant-loop-i l = Taken l.initial.self.rest.now l.head.kids l._i l.kids.items l.self.rest.now
