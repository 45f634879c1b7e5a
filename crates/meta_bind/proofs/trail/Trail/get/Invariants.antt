use Rattle.std.proofs.Common.{◌≡◌, map, drop}
use Rattle.meta_bind.specs.Bounds.{seen_held, bound_at}
use Rattle.meta_bind.proofs.trail.Trail.get.Given as goal

abbrev pub invariant-loop-one : goal.invariant-loop-one
invariant-loop-one l = bound_at l.name (map seen_held l.one-items) ≡ bound_at l.name (map seen_held (drop l.one-index l.one-items))
