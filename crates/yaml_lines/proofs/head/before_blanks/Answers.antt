use Rattle.std.proofs.Common.{◌∙◌, sym}
use Rattle.yaml_lines.proofs.Steps.{before_step, utf8_front, small_blank}
use Rattle.yaml_lines.proofs.head.before_blanks.Goals as goal

pub blanks-preserved : goal.blanks-preserved
blanks-preserved c = record {
  same = c.blanks.invariant.same ∙ before_step _ _ c.in-Some.last.now c.in-Some.ensures.cases.0 (sym c.if-not-is_blank.ensures);
  utf8 = λ u. utf8_front _ _ _ c.in-Some.last.now (small_blank _ (sym c.if-not-is_blank.ensures)) c.in-Some.ensures.cases.0 (c.blanks.invariant.utf8 u);
}
