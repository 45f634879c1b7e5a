use Rattle.std.proofs.Common.{◌≡◌, drop}
use Rattle.py_lex.specs.Inside.{has_backslash}
use Rattle.py_lex.proofs.inside.has_backslash.Given as goal

abbrev pub invariant-loop-b : goal.invariant-loop-b
invariant-loop-b l = has_backslash (drop l.b-index l.text) ≡ has_backslash l.text
