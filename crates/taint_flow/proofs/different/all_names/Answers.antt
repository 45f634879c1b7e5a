use Rattle.std.proofs.Common.{◌≡◌, List, ◌++◌, ap, sym, ◌∙◌}
use Rattle.std.specs.List.{flat_map}
use Rattle.node_tree.specs.declared.node.Node.{Node}
use Rattle.unit_names.specs.Seen.{all_words}
use Rattle.unit_names.proofs.Loops.{walk_more, walk_done}
use Rattle.taint_flow.specs.Bounds.{words_at}
use Rattle.taint_flow.proofs.different.all_names.Goals as goal

pub loop-node-init : goal.loop-node-init
loop-node-init c =
    sym (ap (λ (ns : List Node). flat_map words_at ns) c.in_ok-walk.ensures) ∙ ap (λ ws. all_words ws ++ flat_map words_at c.in_ok-walk.walk) (sym c.new-names.ensures)

pub loop-node-preserved : goal.loop-node-preserved
loop-node-preserved c = walk_more words_at c.in-Some.node.now c.next.new.self c.loop-node.walk _ _ _ c.in-Some.ensures.steps c.loop-node.invariant c.in_ok-add_name.ensures

pub returns : goal.returns
returns c = walk_done words_at c.loop-node.walk _ _ c.in_default.ensures.steps.0 c.loop-node.invariant
