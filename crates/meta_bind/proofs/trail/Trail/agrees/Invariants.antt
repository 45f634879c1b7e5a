use Rattle.std.proofs.Common.{◌↔◌, map, drop}
use Rattle.meta_bind.specs.Bounds.{seen_held}
use Rattle.meta_bind.proofs.Names.{AgreeAlong}
use Rattle.meta_bind.proofs.trail.Trail.agrees.Given as goal

abbrev pub invariant-loop-one : goal.invariant-loop-one
invariant-loop-one l = AgreeAlong (map seen_held l.one-items) l.other ↔ AgreeAlong (map seen_held (drop l.one-index l.one-items)) l.other
