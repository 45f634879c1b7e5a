use Rattle.std.proofs.Common.{◌≡◌, map, take}
use Rattle.meta_bind.specs.Bounds.{seen}
use Rattle.piece_match.specs.Moved.{moved_binding}
use Rattle.piece_match.proofs.moving.moved_bounds.Given as goal

abbrev pub invariant-loop-bound : goal.invariant-loop-bound
invariant-loop-bound l = map seen l.kept ≡ moved_binding l.by (map seen (take l.bound-index l.bounds))
