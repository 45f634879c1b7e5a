use Rattle.std.proofs.Common.{◌∙◌, sym, arith}
use Rattle.yaml_lines.proofs.Steps.{past_step, past_utf8}
use Rattle.yaml_lines.proofs.head.past_blanks.Goals as goal

pub blanks-preserved : goal.blanks-preserved
blanks-preserved c = record {
  same = c.blanks.invariant.same ∙ past_step _ _ c.in-Some.first.now c.in-Some.ensures.cases.0 (sym c.if-not-is_blank.ensures);
  utf8 = λ u. past_utf8 _ _ c.in-Some.first.now c.in-Some.ensures.cases.0 (sym c.if-not-is_blank.ensures) (c.blanks.invariant.utf8 u);
  len = omega (arith, c.in-Some.ensures.cases.1, c.blanks.invariant.len);
}
