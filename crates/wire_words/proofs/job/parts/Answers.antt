use Rattle.std.proofs.Common.{string_bytes, sym, ◌∙◌}
use Rattle.wire_words.proofs.Parts.{same_text, un_not, in_parts}
use Rattle.wire_words.proofs.job.parts.Goals as goal

pub returns-clause-some : goal.returns-clause-some
returns-clause-some c = in_parts string_bytes c.args.words.now c.in_ok-first.rest.now c.in_ok-last.options.now c.in_ok-first.first.now c.in_ok-last.last.now c.args.name.now c.as_str-2.result.now
    c.in_ok-first.ensures.cases.0 c.in_ok-last.ensures.cases.0
    (sym c.as_str.ensures.value ∙ same_text _ _ (un_not _ (sym c.ne.ensures ∙ c.if-ne.false)))
    c.as_str-2.ensures.value
