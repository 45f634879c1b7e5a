use Rattle.std.proofs.Common.{sym, ap, ◌∙◌}
use Rattle.unit_effects.proofs.Lists.{none_more}
use Rattle.unit_effects.specs.declared.entry.Function.{Function}
use Rattle.unit_names.specs.Words.{is_one_of, name_word}
use Rattle.unit_effects.proofs.entry.Entry.is_shadowed.Goals as goal

pub loop-function-preserved : goal.loop-function-preserved
loop-function-preserved c =
    none_more (λ (f : Function). is_one_of f.own (name_word c.args.name.now)) c.args.self.now.around.now c.loop-function.function-index c.function-item.result c.loop-function-test.true c.function-item.is c.loop-function.invariant
    (ap (is_one_of c.function-item.result.own) (sym c.name_word.ensures) ∙ sym c.contains.ensures ∙ c.if-contains.false)
