use Rattle.const_prop.proofs.Telling.{told_is, told_above}
use Rattle.const_prop.proofs.view.told.Goals as goal

pub returns-clause-value : goal.returns-clause-value
returns-clause-value c = told_is c.args.held.now c.args.place c.args.name c.value.result c.value.ensures

pub returns-clause-some : goal.returns-clause-some
returns-clause-some c = told_above c.args.held.now c.args.place c.args.name c.value.result c.value.ensures
