use Rattle.std.proofs.Common.{◌++◌, ap, ◌∙◌}
use Rattle.node_tree.specs.Numbers.{kids_at}
use Rattle.node_pool.specs.Spots.{seen, all_seen}
use Rattle.assignments.proofs.Loops.{all_more}
use Rattle.assignments.proofs.parameter_names.kids_of_all.Goals as goal

pub loop-node-preserved : goal.loop-node-preserved
loop-node-preserved c =
    all_more seen kids_at c.args.nodes.now c.loop-node.node-index c.node-item.result _ _ c.loop-node-test.true c.node-item.is c.loop-node.invariant
    (c.in_ok-add_all.ensures ∙ ap (λ ks. all_seen c.loop-node.all ++ ks) (ap all_seen c.as_slice.ensures ∙ c.in_ok-kids.ensures))
