use Rattle.std.proofs.lemmas.Bool.Decides.{nat_tests}
use Rattle.std.proofs.Common.{◌<◌, length, arith}
use Rattle.tree_match.proofs.Lasts.{whole_inside}
use Rattle.tree_match.proofs.last_states.takes_all.Goals as goal

pub returns-then-not-is_empty : goal.returns-then-not-is_empty
returns-then-not-is_empty c _ =
    let some : 0 < length c.args.search.outer.now = grind (arith, nat_tests, c.is_empty.ensures, c.if-not-is_empty.true) in
    whole_inside c.args.search some
