use Rattle.std.proofs.Common.{◌≡◌, map, take}
use Rattle.node_tree.specs.Numbers.{pre_at}
use Rattle.node_pool.specs.Spots.{seen}
use Rattle.tree_match.specs.Starts.{kind_at}
use Rattle.tree_match.proofs.leaf.kinds_of.Given as goal

abbrev pub invariant-loop-further : goal.invariant-loop-further
invariant-loop-further l = l.kinds.items ≡ map kind_at (take l.further (pre_at (seen l.root)))
