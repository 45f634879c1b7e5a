use Rattle.std.proofs.Common.{◌↔◌, drop}
use Rattle.node_match.specs.Relation.{all_strings}
use Rattle.node_match.proofs.class.are_strings.Given as goal

abbrev pub invariant-loop-node : goal.invariant-loop-node
invariant-loop-node l = all_strings l.nodes ↔ all_strings (drop l.node-index l.nodes)
