use Rattle.std.proofs.Common.{◌↔◌, map, drop}
use Rattle.range_algebra.specs.Trees.{branch_of, branches_of}
use Rattle.range_algebra.specs.Meets.{Allowed}
use Rattle.range_algebra.specs.Parts.{AreTakenAway}
use Rattle.range_algebra.proofs.condition.allows_bare.Given as goal

abbrev pub invariant-loop-i : goal.invariant-loop-i
invariant-loop-i l = record {
  allowed : Allowed l.scene.leaves.now l.scene.rx.now l.scene.view.now.bytes (branches_of (map branch_of l.children)) l.one ↔ Allowed l.scene.leaves.now l.scene.rx.now l.scene.view.now.bytes (branches_of (map branch_of (drop l.i l.children))) l.one;
  sets : AreTakenAway l.scene.leaves.now l.scene.rx.now l.scene.view.now.bytes (branches_of (map branch_of (drop l.i l.children))) (drop l.i l.sets);
}
