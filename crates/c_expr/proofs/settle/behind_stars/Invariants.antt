use Rattle.std.proofs.Common.{◌≡◌, ◌-◌, ◌≤◌, length}
use Rattle.c_expr.specs.Settling.{behind_stars, most_stars}
use Rattle.c_expr.specs.Build.{source}
use Rattle.c_expr.proofs.settle.behind_stars.Given as goal

abbrev pub invariant-loop-turn : goal.invariant-loop-turn
invariant-loop-turn l = record {
  within : l.end ≤ length l.tokens;
  turns : l.turn ≤ most_stars;
  place : behind_stars (source l.fn.tokens).cls most_stars l.fn.at ≡ behind_stars (source l.fn.tokens).cls (most_stars - l.turn) l.end;
}
