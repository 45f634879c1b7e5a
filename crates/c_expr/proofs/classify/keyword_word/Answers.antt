use Rattle.std.proofs.Common.{◌∙◌, ap}
use Rattle.c_expr.specs.Words.{keyword_word}
use Rattle.c_expr.proofs.classify.keyword_word.Goals as goal

pub returns : goal.returns
unfolding keyword_word
returns c = c.word_among.ensures ∙ ap keyword_word c.as_bytes.ensures.value
