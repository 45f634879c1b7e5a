use Rattle.std.proofs.Common.{◌≡◌, take}
use Rattle.piece_match.specs.Moved.{moved_members}
use Rattle.piece_match.proofs.moving.moved.Given as goal

abbrev pub invariant-loop-range : goal.invariant-loop-range
invariant-loop-range l = l.kept ≡ moved_members l.by (take l.range-index l.range-items)
