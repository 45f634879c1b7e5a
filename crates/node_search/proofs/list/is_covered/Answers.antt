use Rattle.std.proofs.lemmas.Bool.Decides.{nat_tests}
use Rattle.std.proofs.Common.{◌<◌, length, arith}
use Rattle.node_match.proofs.Sets.{among_at}
use Rattle.node_search.proofs.list.is_covered.Goals as goal

pub returns : goal.returns
returns c is =
    let some : 0 < length c.args.states.now = grind (arith, nat_tests, c.is_empty.ensures, c.if-is_empty.false) in
    (c.index-states-states.result, among_at c.args.states.now _ c.index-states-states.result (omega arith) c.index-states-states.is, c.if-not-last.false, omega arith, c.is_same.ensures.0 is)
