use Rattle.std.proofs.Common.{◌≡◌, ◌++◌, take}
use Rattle.yaml_read.specs.Value.{dash_cells}
use Rattle.yaml_read.proofs.read.push_dashes.Given as goal

abbrev pub invariant-loop-dash : goal.invariant-loop-dash
invariant-loop-dash l = l.cells ≡ l.fn.cells ++ dash_cells (take l.dash-index l.dashes)
