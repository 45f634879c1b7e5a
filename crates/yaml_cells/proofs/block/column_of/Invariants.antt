use Rattle.std.proofs.Common.{◌≡◌, length}
use Rattle.yaml_cells.specs.Block.{column_of}
use Rattle.yaml_cells.proofs.block.column_of.Given as goal

abbrev pub invariant-lines : goal.invariant-lines
invariant-lines l = column_of l.initial.rest ≡ column_of l.rest

abbrev pub decreases-lines : goal.decreases-lines
decreases-lines l = length l.rest
