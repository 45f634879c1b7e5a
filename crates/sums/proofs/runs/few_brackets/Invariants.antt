use Rattle.std.proofs.Common.{◌≡◌, ℕ, ◌≤◌, ◌<◌}
use Rattle.sums.specs.Reading.{round_at}
use Rattle.sums.proofs.ClosedRuns.{open_before}
use Rattle.sums.proofs.runs.few_brackets.Given as goal

abbrev pub invariant-loop-at : goal.invariant-loop-at
invariant-loop-at l = record {
  count : l.count ≡ open_before l.tokens l.from l.at;
  most : l.count < 502;
  few : (n : ℕ) → l.from ≤ n → n < l.at → round_at l.tokens l.from n ≤ 500;
}
