use Rattle.std.proofs.Common.{◌↔◌, map, drop}
use Rattle.meta_bind.specs.Bounds.{seen}
use Rattle.meta_bind.proofs.Names.{AgreeAlong}
use Rattle.meta_bind.proofs.binding.Binding.agrees.Given as goal

abbrev pub invariant-loop-bound : goal.invariant-loop-bound
invariant-loop-bound l = AgreeAlong (map seen l.bound-items) l.other ↔ AgreeAlong (map seen (drop l.bound-index l.bound-items)) l.other
