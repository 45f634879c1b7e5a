use Rattle.std.proofs.Common.{◌⊎◌, ◌↔◌, ◌≤◌, length, drop, map}
use Rattle.tree_match.specs.declared.leaf.Leaf.TheVariants.{Crowded}
use Rattle.node_match.specs.Sets.{Among}
use Rattle.tree_match.specs.Ascending.{IsAscending}
use Rattle.tree_match.specs.Members.{Member, member_cmp}
use Rattle.piece_match.specs.Union.{InSome, moved_part}
use Rattle.piece_match.proofs.unite.union_moved.Given as goal

abbrev pub invariant-loop-part : goal.invariant-loop-part
invariant-loop-part l = record {
  few : length l.members ≤ 10000;
  ordered : IsAscending member_cmp l.members;
  calm : Among (map moved_part l.parts) Crowded → Among (drop l.part-index (map moved_part l.parts)) Crowded;
  gathers : (m : Member) → (Among l.members m ⊎ InSome (drop l.part-index (map moved_part l.parts)) m) ↔ InSome (map moved_part l.parts) m;
}
