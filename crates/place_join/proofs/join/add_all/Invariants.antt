use Rattle.std.proofs.Common.{◌↔◌, ◌⊎◌, drop}
use Rattle.node_match.specs.Sets.{Among}
use Rattle.tree_match.specs.Members.{Member}
use Rattle.place_join.proofs.join.add_all.Given as goal

abbrev pub invariant-loop-one : goal.invariant-loop-one
invariant-loop-one l = (m : Member) → (Among l.into.items m ⊎ Among (drop l.one-index l.members) m) ↔ (Among l.initial.into.items m ⊎ Among l.members m)
