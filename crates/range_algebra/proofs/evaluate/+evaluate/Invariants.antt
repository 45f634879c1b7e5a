use Rattle.range_algebra.proofs.Children.{Walked, InTree, InBranch, IsTreeSet, IsBranchPart, IsBranchTaken}
use Rattle.range_algebra.proofs.evaluate.+evaluate.Given as goal

abbrev pub invariant-members_of_each-loop-i : goal.invariant-members_of_each-loop-i
invariant-members_of_each-loop-i l = Walked (InTree l.scene.leaves.now l.scene.rx.now l.scene.view.now.bytes) (IsTreeSet l.scene.leaves.now l.scene.rx.now l.scene.view.now.bytes) l.formulas l.i l.sets.items

abbrev pub invariant-parts_of_each-loop-i : goal.invariant-parts_of_each-loop-i
invariant-parts_of_each-loop-i l = Walked (InBranch l.scene.leaves.now l.scene.rx.now l.scene.view.now.bytes) (IsBranchPart l.scene.leaves.now l.scene.rx.now l.scene.view.now.bytes) l.children l.i l.parts.items

abbrev pub invariant-taken_away-loop-i : goal.invariant-taken_away-loop-i
invariant-taken_away-loop-i l = Walked (InBranch l.scene.leaves.now l.scene.rx.now l.scene.view.now.bytes) (IsBranchTaken l.scene.leaves.now l.scene.rx.now l.scene.view.now.bytes) l.children l.i l.sets.items
