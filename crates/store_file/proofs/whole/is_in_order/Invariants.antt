use Rattle.std.proofs.Common.{ℕ, ◌-◌, ◌<◌}
use Rattle.store_file.specs.StoreText.{entry_cmp}
use Rattle.store_file.proofs.Order.{NextAscends}
use Rattle.store_file.proofs.whole.is_in_order.Given as goal

abbrev pub invariant-loop-i : goal.invariant-loop-i
invariant-loop-i l = (j : ℕ) → 0 < j → j < l.i → NextAscends entry_cmp l.entries (j - 1) j
