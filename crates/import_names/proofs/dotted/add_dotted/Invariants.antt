use Rattle.std.proofs.Common.{◌≡◌, ◌++◌, length}
use Rattle.import_names.specs.Pieces.{parts_left}
use Rattle.import_names.proofs.dotted.add_dotted.Given as goal

abbrev pub invariant-loop-part : goal.invariant-loop-part
invariant-loop-part l = l.into ++ parts_left l.left ≡ l.initial.into ++ parts_left l.initial.left

abbrev pub decreases-loop-part : goal.decreases-loop-part
decreases-loop-part l = length (parts_left l.left)
