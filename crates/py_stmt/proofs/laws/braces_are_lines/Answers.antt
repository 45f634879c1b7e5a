use Rattle.py_expr.specs.Build.{source}
use Rattle.py_stmt.proofs.Braces.{begins, of_level, to_level}
use Rattle.py_stmt.proofs.laws.braces_are_lines.Goals as goal

pub returns : goal.returns
returns c ts i j = (λ p. of_level (source ts) p.1.0 i j p.0 p.1.1, λ s. (begins (source ts) s.0 i j s.1, to_level (source ts) s.0 i j s.1))
