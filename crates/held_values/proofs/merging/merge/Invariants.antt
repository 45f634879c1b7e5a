use Rattle.held_values.proofs.Nodes.{IsMerging}
use Rattle.held_values.proofs.merging.merge.Given as goal

abbrev pub invariant-loop-node : goal.invariant-loop-node
invariant-loop-node l = IsMerging l.nodes l.node-index l.initial.sources.items l.sources.items l.names.items
