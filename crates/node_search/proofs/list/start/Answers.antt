use Rattle.std.proofs.Common.{refl}
use Rattle.node_search.proofs.Steps.{begins}
use Rattle.node_search.proofs.list.start.Goals as goal

pub returns : goal.returns
returns c k h ps b = begins k h ps _ _ c.args.trail.now b c.in_ok-states.ensures refl refl c.in_ok-copy.ensures
