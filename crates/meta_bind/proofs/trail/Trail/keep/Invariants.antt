use Rattle.std.proofs.Common.{◌≡◌, map, take}
use Rattle.meta_bind.specs.Bounds.{seen_held, seen}
use Rattle.meta_bind.proofs.trail.Trail.keep.Given as goal

abbrev pub invariant-loop-one : goal.invariant-loop-one
invariant-loop-one l = map seen l.bounds ≡ map seen_held (take l.one-index l.one-items)
