use Rattle.std.proofs.Common.{ap}
use Rattle.place_join.proofs.Firsts.{added}
use Rattle.place_join.proofs.join.add.Goals as goal

pub returns : goal.returns
returns c = added _ _ _ _ (ap (λ t. (c.args.one.now.0, t)) c.in_ok-of.ensures) c.in_ok-push.ensures.items
