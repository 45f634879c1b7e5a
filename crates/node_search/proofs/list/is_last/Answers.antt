use Rattle.std.proofs.lemmas.Bool.Decides.{nat_tests}
use Rattle.std.proofs.Common.{◌<◌, length, List, subst, arith}
use Rattle.meta_bind.specs.declared.bound.Bound.{Bound}
use Rattle.node_match.specs.Sets.{Among}
use Rattle.node_match.proofs.Sets.{among_at}
use Rattle.node_search.proofs.list.is_last.Goals as goal

pub returns : goal.returns
returns c is =
    let P : List Bound → Type 0 = λ b. Among c.args.trails.now b in
    let some : 0 < length c.args.trails.now = grind (arith, nat_tests, c.is_empty.ensures, c.if-is_empty.false) in
    subst P (c.is_same.ensures.0 is) (among_at c.args.trails.now _ c.index-trails-trails.result (omega arith) c.index-trails-trails.is)
