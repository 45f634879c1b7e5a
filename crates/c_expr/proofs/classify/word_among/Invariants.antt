use Rattle.std.proofs.Common.{◌≡◌, length, map}
use Rattle.c_expr.specs.Words.{word_among}
use Rattle.c_expr.proofs.classify.word_among.Given as goal

abbrev pub invariant-loop-spellings : goal.invariant-loop-spellings
invariant-loop-spellings l = word_among (map (λ s. record { text = s.text.now; word = s.word }) l.spellings) l.text ≡ word_among (map (λ s. record { text = s.text.now; word = s.word }) l.initial.spellings) l.text

abbrev pub decreases-loop-spellings : goal.decreases-loop-spellings
decreases-loop-spellings l = length l.spellings
