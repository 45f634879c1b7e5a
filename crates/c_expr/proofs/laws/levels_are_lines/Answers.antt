use Rattle.c_expr.proofs.Standard.{is_line, of_line}
use Rattle.c_expr.proofs.laws.levels_are_lines.Goals as goal

pub returns : goal.returns
returns c k ts xs i j = (is_line ts k, of_line ts k)
