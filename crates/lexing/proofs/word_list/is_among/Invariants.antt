use Rattle.std.proofs.Common.{◌≡◌, length, map}
use Rattle.lexing.specs.WordList.{is_among}
use Rattle.lexing.proofs.word_list.is_among.Given as goal

abbrev pub invariant-loop-words : goal.invariant-loop-words
invariant-loop-words l = is_among (map (λ word. word.now) l.words) l.text ≡ is_among (map (λ word. word.now) l.initial.words) l.text

abbrev pub decreases-loop-words : goal.decreases-loop-words
decreases-loop-words l = length l.words
