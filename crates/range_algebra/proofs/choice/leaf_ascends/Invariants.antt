use Rattle.std.proofs.Common.{◌<◌, ℕ}
use Rattle.std.specs.Prelude.{◌≡◌, Some, slice_get}
use Rattle.tree_match.specs.Members.{Member}
use Rattle.member_join.specs.Operands.{Ascends}
use Rattle.range_algebra.proofs.choice.leaf_ascends.Given as goal

abbrev pub invariant-loop-at : goal.invariant-loop-at
invariant-loop-at l = (k : ℕ) (m : Member) → k < l.at → slice_get l.set k ≡ Some m → Ascends m
