use Rattle.std.proofs.Common.{◌≡◌, ◌≤◌, ◌+◌, ◌-◌, ◌++◌, map, drop, length}
use Rattle.meta_bind.specs.Bounds.{seen_held, NamesAscend}
use Rattle.meta_bind.specs.Merges.{joined}
use Rattle.meta_bind.proofs.join.join.Given as goal

abbrev pub invariant-loop-at : goal.invariant-loop-at
invariant-loop-at l = record {
  first : l.at.0 ≤ length l.a;
  second : l.at.1 ≤ length l.b;
  first_ascends : NamesAscend (map seen_held (drop l.at.0 l.a));
  second_ascends : NamesAscend (map seen_held (drop l.at.1 l.b));
  joins : map seen_held l.out.items ++ joined l.keep (map seen_held (drop l.at.0 l.a)) (map seen_held (drop l.at.1 l.b)) ≡ joined l.keep (map seen_held l.a) (map seen_held l.b);
}

abbrev pub decreases-loop-at : goal.decreases-loop-at
decreases-loop-at l = (length l.a + length l.b) - (l.at.0 + l.at.1)
