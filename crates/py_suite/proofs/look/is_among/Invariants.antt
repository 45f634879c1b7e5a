use Rattle.std.proofs.Common.{◌≡◌, drop, map}
use Rattle.grammar.specs.Rule.{has}
use Rattle.py_expr.specs.Words.{class}
use Rattle.py_expr.specs.Build.{token_at}
use Rattle.py_suite.proofs.look.is_among.Given as goal

abbrev pub invariant-loop-word : goal.invariant-loop-word
invariant-loop-word l = has (map class l.words) (class (token_at l.items l.at).word) ≡ has (map class (drop l.word-index l.words)) (class (token_at l.items l.at).word)
