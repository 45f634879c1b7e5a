use Rattle.std.proofs.Common.{◌≡◌, ◌+◌, drop}
use Rattle.quieting.specs.Words.{gap_len}
use Rattle.quieting.proofs.words.gap_len.Given as goal

abbrev pub invariant-loop-at : goal.invariant-loop-at
invariant-loop-at l = gap_len l.text ≡ l.at + gap_len (drop l.at l.text)
