use Rattle.std.proofs.Common.{◌≡◌, ◌++◌, take}
use Rattle.unit_names.specs.Seen.{all_words}
use Rattle.unit_effects.proofs.fixed.add_words.Given as goal

abbrev pub invariant-loop-word : goal.invariant-loop-word
invariant-loop-word l = all_words l.into ≡ all_words l.initial.into ++ all_words (take l.word-index l.words)
