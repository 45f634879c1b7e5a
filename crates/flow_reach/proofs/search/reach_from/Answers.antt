use Rattle.std.proofs.Common.{refl}
use Rattle.flow_reach.specs.Reached.{Tells}
use Rattle.flow_reach.proofs.search.reach_from.Goals as goal

pub returns : goal.returns
unfolding Tells
returns c = record {
  points = c.len.ensures;
  facts = refl;
  exact = λ point fact there lt. c.in_ok-work.ensures.exact point fact lt;
}
