use Rattle.tree_match.proofs.InsideLaws.{way_by_kids, way_by_arguments}
use Rattle.tree_match.proofs.inside.way_into.Goals as goal

pub returns-then-is_kid_by_kids : goal.returns-then-is_kid_by_kids
returns-then-is_kid_by_kids c = way_by_kids c.args.holder c.args.pattern.now c.args.node.now (c.is_kid_by_kids.ensures c.if-is_kid_by_kids.true)

pub returns-then-are_many_arguments : goal.returns-then-are_many_arguments
returns-then-are_many_arguments c =
    way_by_arguments c.args.holder c.args.pattern.now c.args.node.now (c.are_many_arguments.ensures.arguments c.if-are_many_arguments.true) (c.are_many_arguments.ensures.alike c.if-are_many_arguments.true)
