use Rattle.std.proofs.Common.{ap, ◌∙◌}
use Rattle.std.specs.Prelude.{is_none}
use Rattle.unit_effects.proofs.Noting.{noted, none_copied, first_none}
use Rattle.unit_effects.proofs.fixed.note.Goals as goal

pub returns : goal.returns
returns c = noted c.args.name.now _ c.if_first.result c.is_none-first.result c.args.once.now c.insert.new.self (first_none c.get.result c.is_none-first.result c.is_none-first.ensures ∙ none_copied c.get.result ∙ ap is_none c.get.ensures.value) c.if_first.ensures c.in_ok-insert.ensures.updates
