use Rattle.std.proofs.Common.{◌≡◌, ◌+◌, ◌++◌, length}
use Rattle.flow_graph.specs.Units.{functions_from, units_of}
use Rattle.flow_graph.proofs.unit_list.units.Given as goal

abbrev pub invariant-loop-node : goal.invariant-loop-node
invariant-loop-node l = units_of l.root ≡ l.units ++ functions_from (l.at + 1) l.walk

abbrev pub decreases-loop-node : goal.decreases-loop-node
decreases-loop-node l = length l.walk
