use Rattle.std.proofs.Common.{◌≡◌, take, map}
use Rattle.unit_names.specs.Seen.{all_words}
use Rattle.unit_names.specs.Words.{Word}
use Rattle.unit_effects.specs.Numbering as nums
use Rattle.unit_effects.proofs.effects.Tables.start.Given as goal

abbrev pub invariant-loop-name : goal.invariant-loop-name
invariant-loop-name l = l.start ≡ map (λ (w : Word). nums.number_of l.self.literals.now (nums.entry_value l.entry w.text)) (all_words (take l.name-index l.name-items))
