use Rattle.std.proofs.Common.{◌++◌, ap, ◌∙◌}
use Rattle.std.proofs.lemmas.List.{take_all, get_or_default}
use Rattle.assignments.proofs.Loops.{pushed_more}
use Rattle.unit_names.specs.Seen.{seen_word, all_words}
use Rattle.unit_effects.proofs.fixed.add_words.Goals as goal

pub loop-word-preserved : goal.loop-word-preserved
loop-word-preserved c = pushed_more seen_word c.args.words.now c.loop-word.word-index _ (all_words c.args.into.now) _ _ c.loop-word-test.true (get_or_default c.args.words.now c.loop-word.word-index _ _ c.loop-word-test.true) c.loop-word.invariant c.in_ok-push.ensures.ok

pub returns : goal.returns
returns c = c.loop-word.invariant ∙ ap (λ ws. all_words c.args.into.now ++ all_words ws) (take_all c.loop-word.word-index c.args.words.now c.loop-word-test.false)
