use Rattle.std.proofs.Common.{◌≡◌, ◌++◌, take}
use Rattle.std.specs.List.{flat_map}
use Rattle.node_pool.specs.Spots.{all_seen}
use Rattle.assignments.specs.Declarators.{id_of}
use Rattle.assignments.proofs.declarator.add_ids.Given as goal

abbrev pub invariant-loop-node : goal.invariant-loop-node
invariant-loop-node l = all_seen l.into ≡ all_seen l.initial.into ++ flat_map id_of (all_seen (take l.node-index l.nodes))
