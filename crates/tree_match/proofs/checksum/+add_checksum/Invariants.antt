use Rattle.std.proofs.Common.{◌≡◌, ◌<◌, drop}
use Rattle.node_tree.specs.Tree.{pre_of, pre_all}
use Rattle.tree_match.specs.Checksums.{checksum_all}
use Rattle.tree_match.proofs.checksum.+add_checksum.Given as goal

abbrev pub decreases-add_checksum : goal.decreases-add_checksum
decreases-add_checksum l = goal.size-add_checksum l

abbrev pub invariant-loop-kid : goal.invariant-loop-kid
invariant-loop-kid l = record { within : l.sum < 65536; sum : checksum_all l.sum (pre_all (drop l.kid-index l.kid-items)) ≡ checksum_all l.begin (pre_of l.node) }
