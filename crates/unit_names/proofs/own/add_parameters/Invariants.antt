use Rattle.std.proofs.Common.{◌≡◌, ◌++◌, ◌∷◌, [], take}
use Rattle.std.specs.List.{flat_map}
use Rattle.unit_names.specs.Seen.{all_words}
use Rattle.node_pool.specs.Spots.{all_seen}
use Rattle.node_tree.specs.Numbers.{Numbered}
use Rattle.node_tree.specs.Tree.{text_of}
use Rattle.unit_names.specs.Words.{name_word}
use Rattle.unit_names.proofs.own.add_parameters.Given as goal

abbrev pub invariant-loop-name : goal.invariant-loop-name
invariant-loop-name l = all_words l.into ≡ all_words l.initial.into ++ flat_map (λ (s : Numbered). name_word (text_of s.node) ∷ []) (all_seen (take l.name-index l.name-items))
