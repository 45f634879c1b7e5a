use Rattle.std.proofs.Common.{◌≡◌, take}
use Rattle.std.specs.List.{flat_map}
use Rattle.node_tree.specs.Numbers.{kids_at}
use Rattle.node_pool.specs.Spots.{all_seen}
use Rattle.assignments.proofs.parameter_names.kids_of_all.Given as goal

abbrev pub invariant-loop-node : goal.invariant-loop-node
invariant-loop-node l = all_seen l.all ≡ flat_map kids_at (all_seen (take l.node-index l.nodes))
