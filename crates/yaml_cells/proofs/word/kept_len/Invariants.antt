use Rattle.std.proofs.Common.{◌≡◌, ◌≤◌, drop}
use Rattle.yaml_cells.specs.Word.{kept_len}
use Rattle.yaml_lines.specs.Body.{texts}
use Rattle.yaml_lines.proofs.Steps.{plain_from}
use Rattle.yaml_cells.proofs.word.kept_len.Given as goal

abbrev pub invariant-loop-at : goal.invariant-loop-at
invariant-loop-at l = record {
  rest : kept_len (texts l.lines) ≡ plain_from l.len l.at (kept_len (texts (drop l.at l.lines)));
  within : l.len ≤ l.at;
}
