use Rattle.std.proofs.Common.{◌↔◌, ◌⊎◌, drop}
use Rattle.node_match.specs.Sets.{Among}
use Rattle.tree_match.specs.Members.{Member}
use Rattle.sorted_sets.specs.Sizes.{Any}
use Rattle.place_join.specs.Joined.{IsFirstThere}
use Rattle.place_join.proofs.join.add_firsts.Given as goal

abbrev pub invariant-loop-one : goal.invariant-loop-one
invariant-loop-one l = (m : Member) → (Among l.into.items m ⊎ Any (IsFirstThere l.plain l.further m) (drop l.one-index l.further)) ↔ (Among l.initial.into.items m ⊎ Any (IsFirstThere l.plain l.further m) l.further)
