use Rattle.std.proofs.Common.{◌<◌, ℕ, drop}
use Rattle.node_tree.specs.Tree.{kind_of}
use Rattle.node_tree.specs.Numbers.{kids_at}
use Rattle.node_pool.specs.Spots.{seen}
use Rattle.node_match.specs.Free.{parts_of}
use Rattle.node_match.specs.Refused.{IsFrontRefused}
use Rattle.node_match.specs.Relation.{nodes_of}
use Rattle.tree_match.proofs.run.first_begin.Given as goal

abbrev pub invariant-loop-from : goal.invariant-loop-from
invariant-loop-from l = (i : ℕ) → i < l.from → IsFrontRefused (kind_of (seen l.block).node) (parts_of l.pattern) (nodes_of (drop i (kids_at (seen l.block))))
