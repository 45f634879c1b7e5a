use Rattle.std.proofs.Common.{◌≡◌, ℕ, ◌<◌, get_or}
use Rattle.piece_store.specs.Bits.{no_word}
use Rattle.piece_store.proofs.words.is_any.Given as goal

abbrev pub invariant-loop-word : goal.invariant-loop-word
invariant-loop-word l = (k : ℕ) → k < l.word-index → (get_or l.words k no_word).kept ≡ 0
