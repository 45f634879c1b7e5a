use Rattle.flow_reach.proofs.Grow.{grows_as}
use Rattle.flow_reach.proofs.Steps.{one_number}
use Rattle.flow_reach.proofs.worklist.Worklist.see_one.Goals as goal

pub returns : goal.returns
returns c = grows_as _ _ _ _ c.in_ok-see.ensures (λ k. one_number c.args.at c.one.result k c.one.ensures)
