use Rattle.std.proofs.Common.{arith}
use Rattle.std.proofs.lemmas.Map.Text.{text_keys}
use Rattle.piece_store.proofs.shelf.Shelf.mark_all.Goals as goal

pub returns-in-Some : goal.returns-in-Some
returns-in-Some g c = λ o p i. grind (arith, text_keys)
