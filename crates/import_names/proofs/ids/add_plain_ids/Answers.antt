use Rattle.std.proofs.Common.{◌++◌, ap, ◌∙◌}
use Rattle.node_tree.specs.declared.node.Node.{Node}
use Rattle.import_names.specs.Claims as spec
use Rattle.import_names.proofs.Loops.{added_more}
use Rattle.import_names.proofs.ids.add_plain_ids.Goals as goal

pub loop-node-preserved : goal.loop-node-preserved
loop-node-preserved c =
    added_more (λ (n : Node). spec.plain_in (spec.id_of n)) c.args.nodes.now c.loop-node.node-index c.node-item.result _ _ _ c.loop-node-test.true c.node-item.is c.loop-node.invariant
    (c.in_ok-add_plain_in.ensures ∙ ap (λ name. c.loop-node.into.items ++ spec.plain_in name) c.id_of.ensures)
