use Rattle.std.proofs.Common.{◌∙◌}
use Rattle.py_expr.proofs.Idents.{ident_other}
use Rattle.py_expr.proofs.build.ident_kind.Goals as goal

pub returns-in_default : goal.returns-in_default
returns-in_default c = c.kind_of.ensures ∙ ident_other c.args.word c.in_default.not-Name
