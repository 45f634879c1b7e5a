use Rattle.std.proofs.Common.{arith}
use Rattle.std.proofs.lemmas.Map.Text.{text_keys}
use Rattle.piece_store.proofs.Outcomes.{anyway}
use Rattle.piece_store.proofs.shelf.Shelf.keep.Goals as goal

pub returns-in_err-keep-clause-err : goal.returns-in_err-keep-clause-err
returns-in_err-keep-clause-err g c = anyway _ c.from_residual.result (λ o p i. grind (arith, text_keys))

pub returns-in-Some-clause-ok : goal.returns-in-Some-clause-ok
returns-in-Some-clause-ok g c = λ o p i. grind (arith, text_keys)

pub returns-clause-ok : goal.returns-clause-ok
returns-clause-ok g c = λ o p i. grind (arith, text_keys)
