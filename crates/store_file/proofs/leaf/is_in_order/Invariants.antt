use Rattle.std.proofs.Common.{ℕ, ◌-◌, ◌<◌}
use Rattle.tree_match.specs.Members.{member_cmp}
use Rattle.store_file.proofs.Order.{NextAscends}
use Rattle.store_file.proofs.leaf.is_in_order.Given as goal

abbrev pub invariant-loop-i : goal.invariant-loop-i
invariant-loop-i l = (j : ℕ) → 0 < j → j < l.i → NextAscends member_cmp l.members (j - 1) j
