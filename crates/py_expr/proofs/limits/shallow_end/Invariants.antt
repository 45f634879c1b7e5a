use Rattle.std.proofs.Common.{◌≡◌, ℕ, ◌≤◌, ◌<◌}
use Rattle.py_expr.specs.reader.Reading.{round_at}
use Rattle.py_expr.proofs.Counting.{open_before}
use Rattle.py_expr.proofs.limits.shallow_end.Given as goal

abbrev pub invariant-loop-at : goal.invariant-loop-at
invariant-loop-at l = record {
  count : l.count ≡ open_before l.items l.from l.at;
  most : l.count < 502;
  few : (n : ℕ) → l.from ≤ n → n < l.at → round_at l.items l.from n ≤ 500;
}
