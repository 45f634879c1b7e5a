use Rattle.std.proofs.Common.{◌∙◌, ◌/◌, ap, List}
use Rattle.piece_store.specs.declared.words.Word.{Word}
use Rattle.piece_store.specs.Bits.{word_at}
use Rattle.piece_store.proofs.RowLaws.{blank_last}
use Rattle.piece_store.proofs.words.make_room.Goals as goal

pub loop-words-preserved : goal.loop-words-preserved
loop-words-preserved c = λ i. ap (λ (s : List Word). word_at s i) c.in_ok-push.ensures.items ∙ blank_last c.loop-words.words.items (i / 64) ∙ c.loop-words.invariant i
