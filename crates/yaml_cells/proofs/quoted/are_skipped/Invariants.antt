use Rattle.std.proofs.Common.{◌≡◌, drop}
use Rattle.yaml_cells.specs.Quoted.{are_skipped}
use Rattle.yaml_lines.specs.Body.{texts}
use Rattle.yaml_cells.proofs.quoted.are_skipped.Given as goal

abbrev pub invariant-loop-at : goal.invariant-loop-at
invariant-loop-at l = are_skipped (texts (drop l.from l.lines)) ≡ are_skipped (texts (drop l.at l.lines))
