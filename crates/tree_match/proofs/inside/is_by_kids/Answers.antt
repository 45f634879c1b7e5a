use Rattle.std.proofs.Common.{◌∙◌, sym}
use Rattle.tree_match.proofs.InsideLaws.{by_kids}
use Rattle.tree_match.proofs.inside.is_by_kids.Goals as goal

pub returns : goal.returns
returns c so = by_kids c.args.pattern.now c.args.node.now (sym c.role_of.ensures ∙ c.in-Plain.is) (sym c.is_literal.ensures ∙ c.if-is_literal.false) (c.is_alike.ensures.0 so)
