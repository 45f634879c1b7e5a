use Rattle.std.proofs.Common.{ap, ◌∙◌}
use Rattle.std.proofs.lemmas.List.{take_all}
use Rattle.unit_names.specs.Seen.{seen_word, all_words}
use Rattle.unit_names.specs.Words.{each_once}
use Rattle.unit_names.proofs.WordPlaces.{once_more}
use Rattle.unit_names.proofs.words.Words.of.Goals as goal

pub loop-word-preserved : goal.loop-word-preserved
loop-word-preserved c = once_more seen_word c.args.words.now c.loop-word.word-index _ _ _ c.loop-word-test.true c.loop-word.invariant c.in_ok-add.ensures

pub returns : goal.returns
returns c = c.loop-word.invariant ∙ ap (λ ws. each_once (all_words ws)) (take_all c.loop-word.word-index c.args.words.now c.loop-word-test.false)
