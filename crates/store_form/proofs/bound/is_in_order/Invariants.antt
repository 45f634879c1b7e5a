use Rattle.std.proofs.Common.{ℕ, ◌-◌, ◌<◌}
use Rattle.store_form.proofs.NameOrder.{NextAscends}
use Rattle.store_form.proofs.bound.is_in_order.Given as goal

abbrev pub invariant-loop-i : goal.invariant-loop-i
invariant-loop-i l = (j : ℕ) → 0 < j → j < l.i → NextAscends l.bounds (j - 1) j
