use Rattle.std.proofs.Common.{◌++◌, ap, sym, ◌∙◌}
use Rattle.std.specs.List.{flat_map}
use Rattle.unit_names.specs.Seen.{all_words}
use Rattle.unit_names.specs.Names as spec
use Rattle.unit_names.proofs.Loops.{walk_more, walk_done}
use Rattle.node_tree.specs.Tree.{kind_of}
use Rattle.unit_names.proofs.hiding.add_all_shared.Goals as goal

pub loop-node-preserved : goal.loop-node-preserved
loop-node-preserved c = let n = c.in-Some.node.now in walk_more spec.shared_in n c.next.new.self c.loop-node.walk _ _ _ c.in-Some.ensures.steps c.loop-node.invariant (c.in_ok-add_shared_by.ensures ∙ ap (λ kids. all_words c.loop-node.into ++ spec.shared_by (kind_of n) kids) c.as_slice.ensures)

pub returns : goal.returns
returns c = walk_done spec.shared_in c.loop-node.walk _ _ c.in_default.ensures.steps.0 (ap (λ ns. all_words c.args.into.now ++ flat_map spec.shared_in ns) (sym c.in_ok-walk.ensures) ∙ c.loop-node.invariant)
