use Rattle.trace_path.proofs.Follow.{found_there}
use Rattle.trace_path.proofs.check.among.Goals as goal

pub returns : goal.returns
returns c = found_there c.args.numbers.now c.args.number c.binary_search.result c.is_ok.result c.requires c.binary_search.ensures.position c.is_ok.ensures.value
