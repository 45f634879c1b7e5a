use Rattle.std.proofs.Common.{sym, ◌∙◌, arith, ◌<◌, length}
use Rattle.std.proofs.lemmas.Bool.Decides.{nat_tests}
use Rattle.piece_match.proofs.Merges.{first_before}
use Rattle.piece_match.proofs.merge.is_before.Goals as goal

pub returns-in-Less : goal.returns-in-Less
returns-in-Less c _ =
    let some : 0 < length c.args.first.now = grind (arith, nat_tests, c.is_empty.ensures, c.if-is_empty.false) in
    first_before c.args.first.now c.args.others.now _ _ c.requires.first c.requires.others some c.index-first-first.is c.index-others-0.is (sym c.in_ok-order.ensures ∙ c.in-Less.is)
