use Rattle.std.proofs.Common.{◌≡◌, ◌≤◌, List, ℕ, length, drop, map, true, nat_cmp}
use Rattle.std.specs.Borrow.{Bor}
use Rattle.std.specs.BTreeSet.{contains}
use Rattle.std.specs.Cmp.Lexicographic.{slice_cmp}
use Rattle.lexing.specs.WordList.{is_among}
use Rattle.rule_keys.specs.Heads.{named, are_distinct}
use Rattle.rule_keys.proofs.head.are_distinct.Given as goal

abbrev pub invariant-items : goal.invariant-items
invariant-items l = record {
  place : l.at ≤ length l.items;
  apart : are_distinct (map named (drop l.at l.items)) ≡ true;
  seen : (key : Bor (List ℕ)) → contains (λ x y. slice_cmp nat_cmp x.now y.now) l.seen key ≡ is_among (map named (drop l.at l.items)) key.now;
}

abbrev pub decreases-items : goal.decreases-items
decreases-items l = l.at
