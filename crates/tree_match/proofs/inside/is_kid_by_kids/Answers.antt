use Rattle.std.proofs.Common.{◌∙◌, sym}
use Rattle.tree_match.proofs.InsideLaws.{kid_by_kids, arguments_by_kids}
use Rattle.tree_match.proofs.inside.is_kid_by_kids.Goals as goal

pub returns-then-is_arguments : goal.returns-then-is_arguments
returns-then-is_arguments c so = arguments_by_kids c.args.holder c.args.pattern.now c.args.node.now (sym c.is_arguments.ensures ∙ c.if-is_arguments.true) (c.is_in_order.ensures so)

pub returns : goal.returns
returns c so = kid_by_kids c.args.holder c.args.pattern.now c.args.node.now (sym c.is_arguments.ensures ∙ c.if-is_arguments.false) (c.is_by_kids.ensures so)
