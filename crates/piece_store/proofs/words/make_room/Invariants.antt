use Rattle.std.proofs.Common.{◌≡◌, ℕ, ◌+◌, ◌-◌, ◌/◌, length}
use Rattle.piece_store.specs.Bits.{word_at}
use Rattle.piece_store.proofs.words.make_room.Given as goal

abbrev pub invariant-loop-words : goal.invariant-loop-words
invariant-loop-words l = (i : ℕ) → word_at l.words.items i ≡ word_at l.initial.words.items i

abbrev pub decreases-loop-words : goal.decreases-loop-words
decreases-loop-words l = l.at / 64 + 1 - length l.words.items
