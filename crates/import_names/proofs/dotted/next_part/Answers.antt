use Rattle.std.proofs.Common.{eqb, lit<, ap, ◌∙◌}
use Rattle.std.proofs.lemmas.Str.Pattern.{split_once_first}
use Rattle.std.proofs.lemmas.List.Splits.{slice_split_first}
use Rattle.import_names.specs.Pieces.{parts_left}
use Rattle.import_names.proofs.Cuts.{one_part}
use Rattle.import_names.proofs.dotted.next_part.Goals as goal

pub returns-in-Some : goal.returns-in-Some
returns-in-Some c =
    let whole = split_once_first 46 c.in_ok-text.text.now c.split_once.result c.split_once.ensures.cases (lit< tt) in
    let parts = rw c.in-Some.is at whole in
    let first = slice_split_first (λ b. eqb b 46) c.in_ok-text.text.now 0 parts.0 in
    ap parts_left c.in_ok-text.was ∙ first ∙ cc (parts.1, parts.2)

pub returns-in-None : goal.returns-in-None
returns-in-None c =
    let whole = split_once_first 46 c.in_ok-text.text.now c.split_once.result c.split_once.ensures.cases (lit< tt) in
    let none = rw c.in-None.is at whole in
    ap parts_left c.in_ok-text.was ∙ one_part c.in_ok-text.text.now none
