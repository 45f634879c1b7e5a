use Rattle.std.proofs.Common.{◌↔◌, ◌⊎◌, drop}
use Rattle.node_match.specs.Sets.{Among}
use Rattle.tree_match.specs.Members.{Member}
use Rattle.range_algebra.specs.Parts.{IsInSome}
use Rattle.range_algebra.proofs.evaluate.union.Given as goal

abbrev pub invariant-loop-set : goal.invariant-loop-set
invariant-loop-set l = (m : Member) → (Among l.members.items m ⊎ IsInSome (drop l.set-index l.sets) m) ↔ IsInSome l.sets m
