use Rattle.quieting.proofs.Gaps.{gap_cuts, word_cuts}
use Rattle.quieting.proofs.words.first_word.Goals as goal

pub range_from-rest-requires : goal.range_from-rest-requires
range_from-rest-requires c = λ h. gap_cuts c.args.text.now c.as_bytes.result.now c.gap_len.result c.utf8.text c.as_bytes.ensures.value c.gap_len.ensures.len c.gap_len.ensures.within

pub range-requires-clause-end_boundary : goal.range-requires-clause-end_boundary
range-requires-clause-end_boundary c = word_cuts c.range_from-rest.result.now c.as_bytes-2.result.now c.word_len.result c.as_bytes-2.ensures.value c.word_len.ensures.len c.word_len.ensures.within
