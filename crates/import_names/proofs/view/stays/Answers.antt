use Rattle.std.proofs.Common.{subst, ◌∙◌}
use Rattle.import_names.specs.Itself.{AllThemselves}
use Rattle.import_names.proofs.Itself.{resolves_to_itself}
use Rattle.import_names.proofs.view.stays.Goals as goal

pub returns : goal.returns
returns c e = resolves_to_itself c.args.view.now c.requires (subst AllThemselves (c.as_slice.ensures.value ∙ c.in_ok-own.ensures) (c.are_themselves.ensures e))
