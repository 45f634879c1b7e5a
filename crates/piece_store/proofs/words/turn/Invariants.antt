use Rattle.piece_store.specs.Bits.{turned_word}
use Rattle.piece_store.proofs.BitLaws.{Changed}
use Rattle.piece_store.proofs.words.turn.Given as goal

abbrev pub invariant-loop-word : goal.invariant-loop-word
invariant-loop-word l = Changed turned_word l.word-index l.initial.word-items l.word-items
