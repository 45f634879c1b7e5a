use Rattle.std.proofs.Common.{[], ◌∷◌, ◌++◌, ap, ◌∙◌}
use Rattle.unit_names.specs.Seen.{all_words}
use Rattle.unit_names.proofs.Loops.{plain_more, plain_done}
use Rattle.node_tree.specs.Tree.{text_of}
use Rattle.unit_names.specs.Words.{name_word}
use Rattle.unit_names.proofs.hiding.add_texts.Goals as goal

pub loop-node-preserved : goal.loop-node-preserved
loop-node-preserved c = plain_more (λ n. name_word (text_of n) ∷ []) c.args.nodes.now c.loop-node.node-index c.node-item.result _ _ _ c.loop-node-test.true c.node-item.is c.loop-node.invariant (c.in_ok-add_word.ensures ∙ ap (λ w. all_words c.loop-node.into ++ w ∷ []) (c.name_word.ensures ∙ ap name_word c.as_str.ensures))

pub returns : goal.returns
returns c = plain_done (λ n. name_word (text_of n) ∷ []) c.args.nodes.now c.loop-node.node-index _ _ c.loop-node-test.false c.loop-node.invariant
