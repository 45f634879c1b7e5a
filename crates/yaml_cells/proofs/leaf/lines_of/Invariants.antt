use Rattle.std.proofs.Common.{◌≡◌, ◌∷◌, take}
use Rattle.yaml_lines.specs.Body.{texts}
use Rattle.yaml_cells.proofs.leaf.lines_of.Given as goal

abbrev pub invariant-loop-line : goal.invariant-loop-line
invariant-loop-line l = texts l.lines.items ≡ l.first ∷ take l.line-index l.body
