use Rattle.std.proofs.Common.{◌≡◌, drop}
use Rattle.node_match.specs.Orders.{some_is, is_named}
use Rattle.node_match.proofs.asked.has_names.Given as goal

abbrev pub invariant-loop-node : goal.invariant-loop-node
invariant-loop-node l = some_is is_named l.nodes ≡ some_is is_named (drop l.node-index l.nodes)
