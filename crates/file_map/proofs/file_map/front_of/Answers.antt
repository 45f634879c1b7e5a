use Rattle.std.proofs.Common.{rules}
use Rattle.std.proofs.lemmas.List.{take_min}
use Rattle.file_map.proofs.file_map.front_of.Goals as goal

pub returns : goal.returns
returns c = search (rules, take_min 1000001 c.args.bytes.now)
