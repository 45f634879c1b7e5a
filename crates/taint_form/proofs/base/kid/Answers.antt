use Rattle.taint_form.proofs.Bases.{part_is}
use Rattle.taint_form.proofs.base.kid.Goals as goal

pub returns : goal.returns
returns c = part_is c.args.kids.now c.args.place c.get.result c.get.ensures
