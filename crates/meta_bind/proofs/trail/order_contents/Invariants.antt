use Rattle.std.proofs.Common.{◌≡◌, map, drop}
use Rattle.std.specs.Cmp.Lexicographic.{slice_cmp}
use Rattle.meta_bind.specs.Bounds.{seen_held, contents_cmp}
use Rattle.meta_bind.proofs.trail.order_contents.Given as goal

abbrev pub invariant-loop-i : goal.invariant-loop-i
invariant-loop-i l = slice_cmp contents_cmp (map seen_held l.a) (map seen_held l.b) ≡ slice_cmp contents_cmp (map seen_held (drop l.i l.a)) (map seen_held (drop l.i l.b))
