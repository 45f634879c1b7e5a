use Rattle.std.proofs.Common.{◌≡◌, ◌-◌, ◌≤◌, drop, length, true, None}
use Rattle.yaml_lines.specs.Body.{texts}
use Rattle.yaml_lines.specs.Lines.{lines_at}
use Rattle.yaml_lines.proofs.Reading.{with_lines}
use Rattle.yaml_lines.proofs.read.read_all.Given as goal

abbrev pub invariant-loop-turn : goal.invariant-loop-turn
invariant-loop-turn l = record {
  lines : lines_at (length l.all) 0 true None (texts l.all) ≡ with_lines l.lines (lines_at (length l.all - l.turn) l.at l.fresh l.above (texts (drop l.at l.all)));
  within : l.at ≤ length l.all;
  goes : l.turn ≤ l.at;
}
