use Rattle.std.proofs.Common.{◌≡◌, ◌++◌, drop, true}
use Rattle.std.specs.Option.{option_map}
use Rattle.yaml_cells.specs.Quoted.{rows}
use Rattle.yaml_lines.specs.Body.{texts}
use Rattle.yaml_cells.proofs.quoted.rows.Given as goal

abbrev pub invariant-loop-at : goal.invariant-loop-at
invariant-loop-at l = rows l.quote true (texts l.lines) ≡ option_map (λ ls. l.rows ++ ls) (rows l.quote l.first (texts (drop l.at l.lines)))
