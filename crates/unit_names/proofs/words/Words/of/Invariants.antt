use Rattle.std.proofs.Common.{◌≡◌, take}
use Rattle.unit_names.specs.Seen.{all_words}
use Rattle.unit_names.specs.Words.{each_once}
use Rattle.unit_names.proofs.words.Words.of.Given as goal

abbrev pub invariant-loop-word : goal.invariant-loop-word
invariant-loop-word l = l.once ≡ each_once (all_words (take l.word-index l.words))
