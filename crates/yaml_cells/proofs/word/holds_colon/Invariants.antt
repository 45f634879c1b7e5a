use Rattle.std.proofs.Common.{◌≡◌, length}
use Rattle.yaml_cells.specs.Word.{holds_colon}
use Rattle.yaml_cells.proofs.word.holds_colon.Given as goal

abbrev pub invariant-bytes : goal.invariant-bytes
invariant-bytes l = holds_colon l.closed l.initial.rest ≡ holds_colon l.closed l.rest

abbrev pub decreases-bytes : goal.decreases-bytes
decreases-bytes l = length l.rest
