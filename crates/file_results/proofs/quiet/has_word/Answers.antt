use Rattle.std.proofs.Common.{◌↔◌, Bool, IsTrue, sym, subst}
use Rattle.file_results.specs.Quieted.{HasWord}
use Rattle.file_results.proofs.Worded.{found_word}
use Rattle.file_results.proofs.quiet.has_word.Goals as goal

pub returns : goal.returns
returns c =
    let P : Bool → Type 0 = λ has. IsTrue has ↔ HasWord c.args.text.now in
    subst P (sym c.is_some.ensures) (found_word c.args.text.now c.find.result c.find.ensures)
