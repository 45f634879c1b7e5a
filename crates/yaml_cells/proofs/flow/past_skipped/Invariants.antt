use Rattle.std.proofs.Common.{◌≡◌, drop}
use Rattle.yaml_cells.specs.Flow.{past_skipped}
use Rattle.yaml_lines.specs.Body.{texts}
use Rattle.yaml_cells.proofs.flow.past_skipped.Given as goal

abbrev pub invariant-loop-at : goal.invariant-loop-at
invariant-loop-at l = past_skipped (texts l.lines) ≡ past_skipped (texts (drop l.at l.lines))
