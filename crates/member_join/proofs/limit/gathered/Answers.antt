use Rattle.member_join.proofs.Limits.{too_many}
use Rattle.member_join.proofs.limit.gathered.Goals as goal

pub returns-clause-crowded : goal.returns-clause-crowded
returns-clause-crowded c = too_many _ _ _ c.in_ok-settled.ensures.ordered (λ m h. (c.in_ok-settled.ensures.same m).0 h) c.limited.ensures.named c.limited.ensures.many
