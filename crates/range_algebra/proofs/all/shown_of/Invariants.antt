use Rattle.std.proofs.Common.{◌↔◌, ◌⊎◌, map, drop}
use Rattle.node_match.specs.Sets.{Among}
use Rattle.tree_match.specs.Members.{Member}
use Rattle.range_algebra.specs.Trees.{branch_of, branches_of}
use Rattle.range_algebra.specs.Shown.{IsShownOfSome}
use Rattle.range_algebra.proofs.all.shown_of.Given as goal

abbrev pub invariant-loop-one : goal.invariant-loop-one
invariant-loop-one l =
    (m : Member) → (Among l.members.items m ⊎ IsShownOfSome l.scene.leaves.now l.scene.rx.now l.scene.view.now.bytes (branches_of (map branch_of l.children)) (drop l.one-index l.chosen) m) ↔ IsShownOfSome l.scene.leaves.now l.scene.rx.now l.scene.view.now.bytes (branches_of (map branch_of l.children)) l.chosen m
