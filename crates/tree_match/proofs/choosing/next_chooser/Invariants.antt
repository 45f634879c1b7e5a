use Rattle.std.proofs.Common.{◌≡◌, drop}
use Rattle.node_match.specs.Orders.{choosers}
use Rattle.tree_match.proofs.choosing.next_chooser.Given as goal

abbrev pub invariant-loop-at : goal.invariant-loop-at
invariant-loop-at l = choosers l.choosing.named (drop l.at l.parts) ≡ choosers l.choosing.named (drop l.from l.parts)
