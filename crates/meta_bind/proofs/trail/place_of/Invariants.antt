use Rattle.meta_bind.specs.Bounds.{seen_held}
use Rattle.meta_bind.proofs.Lookups.{PlacedFrom}
use Rattle.meta_bind.proofs.trail.place_of.Given as goal

abbrev pub invariant-loop-i : goal.invariant-loop-i
invariant-loop-i l = PlacedFrom seen_held l.name l.held l.i
