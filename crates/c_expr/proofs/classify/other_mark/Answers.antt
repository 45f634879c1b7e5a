use Rattle.std.proofs.Common.{◌∙◌, ap}
use Rattle.c_expr.specs.Words.{other_mark}
use Rattle.c_expr.proofs.classify.other_mark.Goals as goal

pub returns : goal.returns
unfolding other_mark
returns c = c.word_among.ensures ∙ ap other_mark c.as_bytes.ensures.value
