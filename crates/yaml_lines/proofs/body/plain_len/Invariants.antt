use Rattle.std.proofs.Common.{◌≡◌, ◌≤◌, drop}
use Rattle.yaml_lines.specs.Body.{texts, plain_len}
use Rattle.yaml_lines.proofs.Steps.{plain_from}
use Rattle.yaml_lines.proofs.body.plain_len.Given as goal

abbrev pub invariant-loop-at : goal.invariant-loop-at
invariant-loop-at l = record {
  rest : plain_len l.holder (texts l.lines) ≡ plain_from l.len l.at (plain_len l.holder (texts (drop l.at l.lines)));
  within : l.len ≤ l.at;
}
