use Rattle.std.proofs.Common.{◌++◌, ◌∷◌, [], ap, ◌∙◌}
use Rattle.unit_names.specs.Seen.{seen_word}
use Rattle.unit_names.specs.Words.{Word}
use Rattle.unit_effects.proofs.Lists.{mapped_copy, mapped_all}
use Rattle.unit_effects.specs.Numbering as nums
use Rattle.unit_effects.proofs.effects.Tables.start.Goals as goal

pub loop-name-preserved : goal.loop-name-preserved
loop-name-preserved c = mapped_copy seen_word (λ (w : Word). nums.number_of c.args.self.now.literals.now (nums.entry_value c.args.entry.now w.text)) c.as_slice-name-items.result.now c.loop-name.name-index _ _ _ c.loop-name-test.true c.loop-name.invariant (c.in_ok-push.ensures.ok ∙ ap (λ l. c.loop-name.start ++ l ∷ []) (c.value-in-loop-name.ensures ∙ ap (nums.number_of c.args.self.now.literals.now) c.value.ensures))

pub returns : goal.returns
returns c = mapped_all seen_word (λ (w : Word). nums.number_of c.args.self.now.literals.now (nums.entry_value c.args.entry.now w.text)) c.as_slice-name-items.result.now c.loop-name.name-index _ _ c.loop-name-test.false c.as_slice-name-items.ensures c.loop-name.invariant
