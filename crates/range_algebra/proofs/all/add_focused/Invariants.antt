use Rattle.std.proofs.Common.{◌↔◌, ◌⊎◌, drop}
use Rattle.node_match.specs.Sets.{Among}
use Rattle.tree_match.specs.Members.{Member}
use Rattle.range_algebra.specs.Meets.{IsShownAmong}
use Rattle.range_algebra.proofs.all.add_focused.Given as goal

abbrev pub invariant-loop-name : goal.invariant-loop-name
invariant-loop-name l =
    (m : Member) → (Among l.members.items m ⊎ IsShownAmong (drop l.name-index l.name-items) l.one m) ↔ (Among l.initial.members.items m ⊎ IsShownAmong l.name-items l.one m)
