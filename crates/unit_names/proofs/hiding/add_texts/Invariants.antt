use Rattle.std.proofs.Common.{◌≡◌, ◌++◌, ◌∷◌, [], take}
use Rattle.std.specs.List.{flat_map}
use Rattle.unit_names.specs.Seen.{all_words}
use Rattle.node_tree.specs.Tree.{text_of}
use Rattle.unit_names.specs.Words.{name_word}
use Rattle.unit_names.proofs.hiding.add_texts.Given as goal

abbrev pub invariant-loop-node : goal.invariant-loop-node
invariant-loop-node l = all_words l.into ≡ all_words l.initial.into ++ flat_map (λ n. name_word (text_of n) ∷ []) (take l.node-index l.nodes)
