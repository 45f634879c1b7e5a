use Rattle.std.proofs.Common.{◌∙◌, sym}
use Rattle.rule_map.proofs.Places.{with_held, with_new}
use Rattle.rule_map.proofs.place.files_with.Goals as goal

pub returns-in-Ok : goal.returns-in-Ok
returns-in-Ok c = λ file e. with_held c.args.texts.now file c.in-Ok.field-0 (sym c.in-Ok.is ∙ e)

pub returns-in-Err : goal.returns-in-Err
returns-in-Err c = λ file e. with_new c.args.texts.now file c.in-Err.field-0 (sym c.in-Err.is ∙ e)
