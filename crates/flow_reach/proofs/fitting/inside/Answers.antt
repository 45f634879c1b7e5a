use Rattle.std.proofs.Common.{arith}
use Rattle.flow_reach.proofs.fitting.inside.Goals as goal

pub returns : goal.returns
returns c = (
  λ t point fact among. let r = c.pairs_below.ensures.0 t point fact among in (omega (arith, r.0, c.len.ensures), r.1),
  λ all. c.pairs_below.ensures.1 (λ point fact among. let r = all point fact among in (omega (arith, r.0, c.len.ensures), r.1)),
)
