use Rattle.std.proofs.Common.{[], ◌∷◌, ◌++◌, ap, ◌∙◌}
use Rattle.unit_names.specs.Seen.{all_words}
use Rattle.assignments.proofs.Loops.{flat_done}
use Rattle.point_nodes.proofs.Parts.{flat_more}
use Rattle.node_pool.specs.Spots.{seen, all_seen}
use Rattle.node_tree.specs.Numbers.{Numbered}
use Rattle.node_tree.specs.Tree.{text_of}
use Rattle.unit_names.specs.Words.{name_word}
use Rattle.unit_names.proofs.own.add_parameters.Goals as goal

pub loop-name-preserved : goal.loop-name-preserved
loop-name-preserved c = flat_more seen (λ (s : Numbered). name_word (text_of s.node) ∷ []) c.as_slice-name-items.result.now c.loop-name.name-index c.name-item.result _ _ _ c.loop-name-test.true c.name-item.is c.loop-name.invariant (c.in_ok-add_word.ensures ∙ ap (λ w. all_words c.loop-name.into ++ w ∷ []) (c.name_word.ensures ∙ ap name_word c.as_str.ensures))

pub returns : goal.returns
returns c = flat_done seen (λ (s : Numbered). name_word (text_of s.node) ∷ []) c.as_slice-name-items.result.now c.loop-name.name-index _ (all_words c.args.into.now) _ c.loop-name-test.false (ap all_seen c.as_slice-name-items.ensures ∙ c.in_ok-names.ensures) c.loop-name.invariant
