use Rattle.std.proofs.Common.{◌≡◌, ◌∙◌, ℕ, drop, sym, ap}
use Rattle.meta_bind.specs.Fills.{mark_size, word_size}
use Rattle.meta_bind.proofs.Joins.{slice_rest}
use Rattle.meta_bind.proofs.Fillings.{no_mark, no_word, is_name}
use Rattle.meta_bind.proofs.template.name_size.Goals as goal

pub returns-then-mark-eq0-clause-size : goal.returns-then-mark-eq0-clause-size
returns-then-mark-eq0-clause-size c = no_mark c.args.text.now (sym c.mark_size-mark.ensures.size ∙ c.if-mark-eq0.true)

pub returns-then-word-eq0-clause-size : goal.returns-then-word-eq0-clause-size
returns-then-word-eq0-clause-size c =
    let rest = c.word_size-word.ensures.size ∙ ap word_size (slice_rest c.args.text.now c.mark_size-mark.result) ∙ ap (λ (m : ℕ). word_size (drop m c.args.text.now)) c.mark_size-mark.ensures.size in
    no_word c.args.text.now (sym rest ∙ c.if-word-eq0.true)

pub returns-else-word-eq0-clause-size : goal.returns-else-word-eq0-clause-size
returns-else-word-eq0-clause-size c =
    let rest = c.word_size-word.ensures.size ∙ ap word_size (slice_rest c.args.text.now c.mark_size-mark.result) ∙ ap (λ (m : ℕ). word_size (drop m c.args.text.now)) c.mark_size-mark.ensures.size in
    is_name c.args.text.now c.mark_size-mark.result c.word_size-word.result c.mark_size-mark.ensures.size rest c.if-mark-eq0.false c.if-word-eq0.false
