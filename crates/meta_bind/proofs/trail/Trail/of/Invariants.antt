use Rattle.std.proofs.Common.{◌≡◌, map, take}
use Rattle.meta_bind.specs.Bounds.{seen_held, seen}
use Rattle.meta_bind.proofs.trail.Trail.of.Given as goal

abbrev pub invariant-loop-bound : goal.invariant-loop-bound
invariant-loop-bound l = map seen_held l.held.items ≡ map seen (take l.bound-index l.bound-items)
