use Rattle.std.proofs.Common.{◌≡◌, ◌<◌, ◌≤◌, ℕ, length, get_or}
use Rattle.node_tree.specs.declared.node.Node.{Node}
use Rattle.node_match.specs.Refused.{IsKidRefused}
use Rattle.tree_match.proofs.next_places.next_places.Given as goal

abbrev pub decreases-loop-at : goal.decreases-loop-at
decreases-loop-at l = l.at

-- what is known of the places from `at` on
abbrev pub invariant-loop-at : goal.invariant-loop-at
invariant-loop-at l = record {
  within : l.at ≤ length l.kids;
  later : l.at ≤ l.soon;
  size : length l.next.items ≡ length l.kids;
  refused : (k : ℕ) (n : Node) → l.at ≤ k → k < l.soon → k < length l.kids → n ≡ get_or l.kids k n → IsKidRefused l.kind l.pattern n;
  on : (i j : ℕ) → l.at ≤ i → i < length l.kids → j ≡ get_or l.next.items i j → i ≤ j;
  over : (i j k : ℕ) (n : Node) → l.at ≤ i → i < length l.kids → j ≡ get_or l.next.items i j → i ≤ k → k < j → k < length l.kids → n ≡ get_or l.kids k n → IsKidRefused l.kind l.pattern n;
}
