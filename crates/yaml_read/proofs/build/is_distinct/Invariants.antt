use Rattle.std.proofs.Common.{◌≡◌, ◌≤◌, ℕ, List, length, drop, true, nat_cmp}
use Rattle.std.specs.Borrow.{Bor}
use Rattle.std.specs.BTreeSet.{contains}
use Rattle.std.specs.Cmp.Lexicographic.{slice_cmp}
use Rattle.yaml_read.specs.Keys.{is_among, is_distinct}
use Rattle.yaml_read.proofs.build.is_distinct.Given as goal

abbrev pub invariant-entries : goal.invariant-entries
invariant-entries l = record {
  place : l.at ≤ length l.entries;
  apart : is_distinct (drop l.at l.entries) ≡ true;
  seen : (key : Bor (List ℕ)) → contains (λ x y. slice_cmp nat_cmp x.now y.now) l.seen key ≡ is_among key.now (drop l.at l.entries);
}

abbrev pub decreases-entries : goal.decreases-entries
decreases-entries l = l.at
