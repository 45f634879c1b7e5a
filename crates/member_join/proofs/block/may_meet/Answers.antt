use Rattle.std.proofs.Common.{List, subst}
use Rattle.node_match.specs.Sets.{Among}
use Rattle.node_match.proofs.Sets.{among_at}
use Rattle.member_join.specs.declared.block.Hull.{Hull}
use Rattle.member_join.proofs.Blocks.{bound_outside}
use Rattle.member_join.proofs.block.may_meet.Goals as goal

pub returns-then-lies_outside : goal.returns-then-lies_outside
returns-then-lies_outside c e =
    let P : List Hull → Type 0 = λ hulls. Among hulls c.hull-item.result in
    let at = among_at _ _ c.hull-item.result c.loop-hull-test.true c.hull-item.is in
    bound_outside c.args.block.now c.args.state.now c.requires.block c.hull-item.result (subst P c.as_slice-hull-items.ensures.value at) (c.lies_outside.ensures c.if-lies_outside.true)
