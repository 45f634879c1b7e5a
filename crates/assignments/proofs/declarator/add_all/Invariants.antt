use Rattle.std.proofs.Common.{◌≡◌, ◌++◌, take}
use Rattle.node_pool.specs.Spots.{all_seen}
use Rattle.assignments.proofs.declarator.add_all.Given as goal

abbrev pub invariant-loop-node : goal.invariant-loop-node
invariant-loop-node l = all_seen l.into ≡ all_seen l.initial.into ++ all_seen (take l.node-index l.nodes)
