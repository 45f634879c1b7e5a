use Rattle.yaml_cells.proofs.Lasts.{last_is}
use Rattle.yaml_cells.proofs.word.is_last.Goals as goal

pub returns : goal.returns
returns c = last_is c.args.lines.now c.args.at c.requires
