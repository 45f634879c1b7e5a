use Rattle.std.proofs.Common.{◌≡◌, ◌≢◌, ◌<◌, ◌≤◌, ℕ, length}
use Rattle.c_expr.specs.declared.word.Word.TheVariants.{End}
use Rattle.c_expr.specs.Words.{class}
use Rattle.c_expr.specs.Build.{token_at}
use Rattle.c_unit.proofs.whole.first_end.Given as goal

abbrev pub invariant-loop-at : goal.invariant-loop-at
invariant-loop-at l = record { none : (n : ℕ) → n < l.at → class (token_at l.tokens n).word ≢ class End }
