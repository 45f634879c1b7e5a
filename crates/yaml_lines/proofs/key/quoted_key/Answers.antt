use Rattle.std.proofs.Common.{ap, sym, ◌∙◌, arith, length, length-drop}
use Rattle.yaml_lines.specs.Blanks.{past_sign}
use Rattle.yaml_lines.proofs.Steps.{quoted_none, quoted_some, rest_behind, slice_rest}
use Rattle.yaml_lines.proofs.key.quoted_key.Goals as goal

pub returns-in_default-clause-key : goal.returns-in_default-clause-key
returns-in_default-clause-key c = quoted_none c.args.text.now c.args.len c.in_default.ensures.cases.0

pub returns-in-Some-2-clause-key : goal.returns-in-Some-2-clause-key
returns-in-Some-2-clause-key c =
    quoted_some c.args.text.now c.in-Some.rest.now c.in-Some-2.content c.args.len c.in-Ok.ensures.cases.1
    (c.in-Some.ensures.past ∙ ap (past_sign 58) c.past_blanks.ensures.rest) (sym c.in-Some-2.is ∙ c.in_ok-content.ensures)

pub returns-in-Some-2-clause-rest : goal.returns-in-Some-2-clause-rest
returns-in-Some-2-clause-rest c =
    rest_behind c.args.text.now c.past_blanks.result.now c.in-Some.rest.now c.in-Some.ensures.rest (c.past_blanks.ensures.utf8 c.in-Ok.ensures.cases.1)
    (omega (arith, c.past_blanks.ensures.len, ap length (slice_rest c.args.text.now c.args.len), length-drop c.args.len c.args.text.now))
