use Rattle.std.proofs.Common.{◌≤◌, ◌+◌, length}
use Rattle.json_check.specs.fronts.Fronts.{held}
use Rattle.json_check.proofs.Bad.{IsAt}
use Rattle.json_check.proofs.front.first_bad.Given as goal

abbrev pub invariant-loop-c : goal.invariant-loop-c
invariant-loop-c l = record {
  row : l.front.state + 36 ≤ 1764;
  within : l.at ≤ length l.text;
  at : IsAt l.text (length l.yielded) l.at (held l.front);
}
