use Rattle.flow_reach.proofs.Words.{one_bit}
use Rattle.flow_reach.proofs.bits.one.Goals as goal

pub returns : goal.returns
returns c i = one_bit c.args.at i
