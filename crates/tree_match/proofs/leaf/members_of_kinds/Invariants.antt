use Rattle.std.proofs.Common.{◌↔◌, ◌⊎◌, ◌≤◌, length, drop}
use Rattle.node_tree.specs.Numbers.{pre_at}
use Rattle.node_pool.specs.Spots.{seen}
use Rattle.node_match.specs.Sets.{Among}
use Rattle.tree_match.specs.Ascending.{IsAscending}
use Rattle.tree_match.specs.Members.{Member, member_cmp, MemberAt, MemberIn}
use Rattle.tree_match.proofs.leaf.members_of_kinds.Given as goal

abbrev pub invariant-loop-further : goal.invariant-loop-further
invariant-loop-further l = record {
  few : length l.members ≤ 10000;
  ordered : IsAscending member_cmp l.members;
  gathers : (m : Member) → (Among l.members m ⊎ MemberIn (MemberAt l.known.names.now l.pattern) (drop l.further (pre_at (seen l.root))) m) ↔ MemberIn (MemberAt l.known.names.now l.pattern) (pre_at (seen l.root)) m;
}
