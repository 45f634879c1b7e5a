use Rattle.std.proofs.Common.{map, rules}
use Rattle.node_tree.specs.Tree.{content_of}
use Rattle.store_form.specs.Form.{node_bytes, IsNode, IsListOf}
use Rattle.store_form.proofs.Adding.{added_more, one_of}
use Rattle.store_form.proofs.written.add_nodes.Goals as goal

pub loop-node-preserved : goal.loop-node-preserved
loop-node-preserved c =
    added_more IsNode node_bytes content_of c.add_length.new.out c.args.nodes.now c.loop-node.node-index c.loop-node.out c.add_node.new.out c.node-item.result c.loop-node.invariant c.loop-node-test.true c.node-item.is c.in_ok-add_node.ensures.0 c.in_ok-add_node.ensures.1

pub returns-in_err-add_node : goal.returns-in_err-add_node
returns-in_err-add_node c =
    let part : IsListOf IsNode (map content_of c.args.nodes.now) → IsNode (content_of c.node-item.result) = λ is.
    one_of IsNode node_bytes content_of c.add_length.new.out c.args.nodes.now c.loop-node.node-index c.node-item.result c.loop-node-test.true c.node-item.is is.1 in
    search rules
