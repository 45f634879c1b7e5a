use Rattle.std.proofs.Common.{arith}
use Rattle.piece_store.proofs.BitLaws.{none_kept}
use Rattle.piece_store.proofs.words.is_any.Goals as goal

pub returns : goal.returns
returns c _ = none_kept c.args.words.now (λ k lt. c.loop-word.invariant k (omega arith))
