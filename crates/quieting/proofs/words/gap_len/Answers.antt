use Rattle.std.proofs.Common.{sym, ◌∙◌}
use Rattle.quieting.proofs.Gaps.{gap_stops, gap_goes}
use Rattle.quieting.proofs.words.gap_len.Goals as goal

pub returns-then-not-begins_gap-clause-len : goal.returns-then-not-begins_gap-clause-len
returns-then-not-begins_gap-clause-len c = sym (gap_stops c.args.text.now c.loop-at.at (sym c.begins_gap.ensures ∙ c.if-not-begins_gap.true) c.loop-at.invariant)

pub loop-at-preserved : goal.loop-at-preserved
loop-at-preserved c = gap_goes c.args.text.now c.loop-at.at c.loop-at-test.true (sym c.begins_gap.ensures ∙ c.if-not-begins_gap.false) c.loop-at.invariant
