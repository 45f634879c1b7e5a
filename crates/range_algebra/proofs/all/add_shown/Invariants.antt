use Rattle.std.proofs.Common.{◌↔◌, ◌⊎◌, map, drop}
use Rattle.node_match.specs.Sets.{Among}
use Rattle.tree_match.specs.Members.{Member}
use Rattle.range_algebra.specs.Trees.{branch_of, branches_of, focused}
use Rattle.range_algebra.specs.Meets.{IsShownAmong}
use Rattle.range_algebra.proofs.all.add_shown.Given as goal

abbrev pub invariant-loop-child : goal.invariant-loop-child
invariant-loop-child l =
    (m : Member) → (Among l.members.items m ⊎ IsShownAmong (focused (branches_of (map branch_of (drop l.child-index l.children)))) l.one m) ↔ (Among l.initial.members.items m ⊎ IsShownAmong (focused (branches_of (map branch_of l.children))) l.one m)
