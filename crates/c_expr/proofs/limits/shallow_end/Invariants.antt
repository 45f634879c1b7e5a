use Rattle.std.proofs.Common.{◌≡◌, ℕ, ◌≤◌, ◌<◌}
use Rattle.c_expr.specs.Runs.{round_at}
use Rattle.c_expr.proofs.Counting.{open_before}
use Rattle.c_expr.proofs.limits.shallow_end.Given as goal

abbrev pub invariant-loop-at : goal.invariant-loop-at
invariant-loop-at l = record {
  count : l.count ≡ open_before l.tokens l.from l.at;
  most : l.count < 502;
  few : (n : ℕ) → l.from ≤ n → n < l.at → round_at l.tokens l.from n ≤ 500;
}
