use Rattle.std.proofs.Common.{◌∙◌, Some, refl, ap}
use Rattle.yaml_lines.proofs.Steps.{not_text, content_single, content_double}
use Rattle.yaml_lines.proofs.key.content_of.Goals as goal

pub returns-in_default : goal.returns-in_default
returns-in_default c = rw (not_text c.args.inner.now c.in_default.ensures.cases.0) refl

pub returns-then-quote-eq39 : goal.returns-then-quote-eq39
returns-then-quote-eq39 c =
    content_single c.args.quote c.args.inner.now c.in-Ok.text.now c.in_ok-from_str.field-0 c.if-quote-eq39.true c.in-Ok.ensures.cases.1 c.in-Ok.ensures.cases.0
    (c.in_ok-from_str.ensures ∙ c.as_str.ensures.value ∙ c.in_ok-content.ensures)

pub returns-in_ok-from_str-in-Some : goal.returns-in_ok-from_str-in-Some
returns-in_ok-from_str-in-Some c =
    let read = rw c.in-Some.is at c.in_ok-content-2.ensures in
    content_double c.args.quote c.args.inner.now c.in-Ok.text.now _ c.if-quote-eq39.false c.in-Ok.ensures.cases.1 c.in-Ok.ensures.cases.0
    (ap Some (c.in_ok-from_str-in-Some.ensures ∙ c.as_str-in-Some.ensures.value) ∙ read)
