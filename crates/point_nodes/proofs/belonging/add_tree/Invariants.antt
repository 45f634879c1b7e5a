use Rattle.std.proofs.Common.{◌≡◌, ◌++◌, take}
use Rattle.node_tree.specs.Numbers.{pre_at}
use Rattle.node_pool.specs.Spots.{seen, all_seen}
use Rattle.point_nodes.proofs.belonging.add_tree.Given as goal

abbrev pub invariant-loop-further : goal.invariant-loop-further
invariant-loop-further l = all_seen l.into ≡ all_seen l.initial.into ++ take l.further (pre_at (seen l.top))
