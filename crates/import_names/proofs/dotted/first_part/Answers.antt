use Rattle.std.proofs.Common.{◌≤◌, length, take, lit<, ap, sym, ◌∙◌, arith}
use Rattle.std.proofs.lemmas.List.{take_all}
use Rattle.std.proofs.lemmas.Str.Pattern.{split_once_first}
use Rattle.import_names.proofs.dotted.first_part.Goals as goal

pub returns-in-Some : goal.returns-in-Some
returns-in-Some c =
    let cut = split_once_first 46 c.args.text.now c.split_once.result c.split_once.ensures.cases (lit< tt) in
    let parts = rw c.in-Some.is at cut in
    parts.1

pub returns-in-None : goal.returns-in-None
returns-in-None c =
    let text = c.args.text.now in
    let cut = split_once_first 46 text c.split_once.result c.split_once.ensures.cases (lit< tt) in
    let none = rw c.in-None.is at cut in
    let all : length text ≤ length text = omega arith in
    sym (ap (λ k. take k text) none ∙ take_all (length text) text all)
