use Rattle.std.proofs.Common.{◌↔◌, ◌⊎◌, drop}
use Rattle.node_match.specs.Sets.{Among}
use Rattle.tree_match.specs.Members.{Member}
use Rattle.range_algebra.proofs.evaluate.add_all.Given as goal

abbrev pub invariant-loop-range : goal.invariant-loop-range
invariant-loop-range l = (m : Member) → (Among l.members.items m ⊎ Among (drop l.range-index l.set) m) ↔ (Among l.initial.members.items m ⊎ Among l.set m)
