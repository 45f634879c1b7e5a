use Rattle.std.proofs.Common.{◌≡◌, length}
use Rattle.yaml_lines.specs.Body.{texts}
use Rattle.yaml_read.specs.Value.{cells_of}
use Rattle.yaml_cells.proofs.Cells.{behind}
use Rattle.yaml_read.proofs.read.cells_of.Given as goal

abbrev pub invariant-lines : goal.invariant-lines
invariant-lines l = cells_of (texts l.all) l.closed l.initial.rest ≡ behind l.cells (cells_of (texts l.all) l.closed l.rest)

abbrev pub decreases-lines : goal.decreases-lines
decreases-lines l = length l.rest
