use Rattle.std.proofs.Common.{◌≡◌, map, drop}
use Rattle.std.specs.Cmp.Lexicographic.{slice_cmp}
use Rattle.meta_bind.specs.Bounds.{seen, place_cmp}
use Rattle.place_join.proofs.place.bounds_order.Given as goal

abbrev pub invariant-loop-i : goal.invariant-loop-i
invariant-loop-i l = slice_cmp place_cmp (map seen l.a) (map seen l.b) ≡ slice_cmp place_cmp (map seen (drop l.i l.a)) (map seen (drop l.i l.b))
