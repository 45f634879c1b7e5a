use Rattle.quieting.proofs.Gaps.{blanks_cut}
use Rattle.quieting.proofs.comment.past_word.Goals as goal

pub range_from-text-requires : goal.range_from-text-requires
range_from-text-requires c = λ h. blanks_cut c.args.content.now c.as_bytes.result.now c.blank_len.result c.utf8.content c.as_bytes.ensures.value c.blank_len.ensures.len c.blank_len.ensures.within
