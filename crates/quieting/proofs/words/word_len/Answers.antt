use Rattle.std.proofs.Common.{sym, ◌∙◌}
use Rattle.quieting.proofs.Gaps.{word_stops, word_goes}
use Rattle.quieting.proofs.words.word_len.Goals as goal

pub returns-then-begins_gap-clause-len : goal.returns-then-begins_gap-clause-len
returns-then-begins_gap-clause-len c = sym (word_stops c.args.text.now c.loop-at.at c.loop-at-test.true (sym c.begins_gap.ensures ∙ c.if-begins_gap.true) c.loop-at.invariant)

pub loop-at-preserved : goal.loop-at-preserved
loop-at-preserved c = word_goes c.args.text.now c.loop-at.at c.loop-at-test.true (sym c.begins_gap.ensures ∙ c.if-begins_gap.false) c.loop-at.invariant
