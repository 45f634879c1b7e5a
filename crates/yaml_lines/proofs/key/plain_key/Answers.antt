use Rattle.std.proofs.Common.{arith}
use Rattle.yaml_lines.proofs.Steps.{utf8_before, rest_after}
use Rattle.yaml_lines.proofs.key.plain_key.Goals as goal

pub text_of-requires : goal.text_of-requires
text_of-requires c =
    c.before_blanks.ensures.utf8 (utf8_before c.args.text.now c.in-Some.at (omega (arith, c.in-Some.ensures.colon.0)) (λ h. omega (arith, c.in-Some.ensures.colon.1)) c.requires)

pub returns-clause-rest : goal.returns-clause-rest
returns-clause-rest c = rest_after c.args.text.now c.in-Some.at c.in-Some.ensures.colon.0 c.in-Some.ensures.colon.1 c.requires
