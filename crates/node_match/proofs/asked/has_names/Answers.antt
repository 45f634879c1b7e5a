use Rattle.std.proofs.Common.{◌∙◌, sym}
use Rattle.node_match.specs.Orders.{is_named}
use Rattle.node_match.proofs.Choosing.{some_next, some_found, some_none}
use Rattle.node_match.proofs.asked.has_names.Goals as goal

pub loop-node-preserved : goal.loop-node-preserved
loop-node-preserved c = some_next is_named c.args.nodes.now c.loop-node.node-index _ c.node-item.result c.loop-node-test.true c.node-item.is (sym c.is_named.ensures ∙ c.if-is_named.false) c.loop-node.invariant

pub returns-then-is_named : goal.returns-then-is_named
returns-then-is_named c = some_found is_named c.args.nodes.now c.loop-node.node-index _ c.node-item.result c.loop-node-test.true c.node-item.is (sym c.is_named.ensures ∙ c.if-is_named.true) c.loop-node.invariant

pub returns : goal.returns
returns c = some_none is_named c.args.nodes.now c.loop-node.node-index _ c.loop-node-test.false c.loop-node.invariant
