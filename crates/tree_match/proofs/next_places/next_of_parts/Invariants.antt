use Rattle.std.proofs.Common.{◌≡◌, length}
use Rattle.node_pool.specs.Spots.{seen}
use Rattle.node_match.specs.Free.{parts_of}
use Rattle.tree_match.specs.Landing.{AreNextOf}
use Rattle.tree_match.proofs.next_places.next_of_parts.Given as goal

abbrev pub invariant-loop-at : goal.invariant-loop-at
invariant-loop-at l = record {
  next : AreNextOf (seen l.holder) (parts_of l.pattern) l.all;
  many : length l.all ≡ l.at;
}
