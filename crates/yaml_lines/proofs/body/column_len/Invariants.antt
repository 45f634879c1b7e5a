use Rattle.std.proofs.Common.{◌≡◌, ◌+◌, drop}
use Rattle.yaml_lines.specs.Body.{texts, column_len}
use Rattle.yaml_lines.proofs.body.column_len.Given as goal

abbrev pub invariant-loop-at : goal.invariant-loop-at
invariant-loop-at l = column_len l.column (texts l.lines) ≡ l.at + column_len l.column (texts (drop l.at l.lines))
