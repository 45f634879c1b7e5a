use Rattle.node_tree.specs.Tree.{content_of}
use Rattle.store_form.specs.Form.{node_bytes, IsNode}
use Rattle.store_form.proofs.Adding.{Added}
use Rattle.store_form.proofs.written.add_nodes.Given as goal

abbrev pub invariant-loop-node : goal.invariant-loop-node
invariant-loop-node l = Added IsNode node_bytes content_of l.initial.out l.nodes l.node-index l.out
