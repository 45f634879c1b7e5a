use Rattle.std.proofs.Common.{◌≡◌, ◌++◌, take}
use Rattle.std.specs.Prelude.{option_to_list}
use Rattle.std.specs.List.{flat_map}
use Rattle.unit_names.specs.Seen.{all_words}
use Rattle.unit_names.specs.Words.{Word}
use Rattle.unit_effects.specs.Numbering.{entry_value}
use Rattle.const_prop.proofs.unit_tables.add_held.Given as goal

abbrev pub invariant-loop-name : goal.invariant-loop-name
invariant-loop-name l = all_words l.into ≡ all_words l.initial.into ++ flat_map (λ (w : Word). option_to_list (entry_value l.entry w.text)) (all_words (take l.name-index l.name-items))
