use Rattle.std.proofs.Common.{◌≡◌, ◌++◌, drop}
use Rattle.std.specs.Option.{option_map}
use Rattle.yaml_cells.specs.Word.{rows}
use Rattle.yaml_lines.specs.Body.{texts}
use Rattle.yaml_cells.proofs.word.rows.Given as goal

abbrev pub invariant-loop-at : goal.invariant-loop-at
invariant-loop-at l = rows l.closed (texts l.lines) ≡ option_map (λ ls. l.rows ++ ls) (rows l.closed (texts (drop l.at l.lines)))
