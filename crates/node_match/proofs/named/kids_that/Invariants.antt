use Rattle.std.proofs.Common.{◌≡◌, ◌++◌, drop}
use Rattle.node_pool.specs.Spots.{all_seen}
use Rattle.node_match.specs.Orders.{parted_at}
use Rattle.node_match.proofs.named.kids_that.Given as goal

abbrev pub invariant-loop-kid : goal.invariant-loop-kid
invariant-loop-kid l = all_seen l.some ++ parted_at l.named (all_seen (drop l.kid-index l.kid-items)) ≡ parted_at l.named (all_seen l.kid-items)
