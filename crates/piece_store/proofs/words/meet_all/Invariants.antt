use Rattle.piece_store.specs.Bits.{met_word}
use Rattle.piece_store.proofs.BitLaws.{Changed}
use Rattle.piece_store.proofs.words.meet_all.Given as goal

abbrev pub invariant-loop-word : goal.invariant-loop-word
invariant-loop-word l = Changed (met_word l.met) l.word-index l.initial.word-items l.word-items
