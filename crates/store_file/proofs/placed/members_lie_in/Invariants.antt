use Rattle.std.proofs.Common.{ℕ, ◌<◌, get_or}
use Rattle.tree_match.specs.Members.{Member}
use Rattle.store_file.specs.Found.{MemberLiesIn}
use Rattle.store_file.proofs.placed.members_lie_in.Given as goal

abbrev pub invariant-loop-member : goal.invariant-loop-member
invariant-loop-member l = (k : ℕ) (d : Member) → k < l.member-index → MemberLiesIn l.text (get_or l.members k d)
