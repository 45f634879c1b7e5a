use Rattle.std.proofs.Common.{◌++◌, ◌∷◌, [], ap, ◌∙◌}
use Rattle.std.proofs.lemmas.List.{map-append}
use Rattle.node_tree.specs.Numbers.{Numbered}
use Rattle.node_pool.specs.Spots.{seen}
use Rattle.assignments.specs.declared.assignment.Reach.TheVariants.{Whole}
use Rattle.assignments.specs.Seen.{seen_target, all_targets}
use Rattle.assignments.specs.Targets.{name_here}
use Rattle.assignments.proofs.Loops.{all_more}
use Rattle.assignments.proofs.node_assignment.whole_names.Goals as goal

pub loop-node-preserved : goal.loop-node-preserved
loop-node-preserved c =
    let has = λ (s : Numbered). name_here Whole s ∷ [] in
    all_more seen has c.args.nodes.now c.loop-node.node-index c.node-item.result _ _ c.loop-node-test.true c.node-item.is c.loop-node.invariant
    (ap all_targets c.in_ok-push.ensures.ok ∙ map-append seen_target c.loop-node.names (c.target.result ∷ []) ∙ ap (λ t. all_targets c.loop-node.names ++ t ∷ []) c.target.ensures)
