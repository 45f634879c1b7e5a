use Rattle.std.proofs.Common.{◌≡◌, Option, List, ℕ, IfOk, subst}
use Rattle.yaml_cells.proofs.Lasts.{word_is}
use Rattle.yaml_cells.proofs.word.word.Goals as goal

pub returns : goal.returns
returns c =
    let P : Option (List ℕ) → Type 0 = λ x. IfOk c.word_of.result (λ t. t ≡ x) in
    subst P (word_is c.args.closed c.is_closed.result c.args.lines.now c.in-Some.more.now c.in-Some.field-0-0.now c.kept_len-len.result c.in-Some.ensures.cases.0 c.kept_len-len.ensures.len c.is_closed.ensures) c.word_of.ensures
