use Rattle.std.proofs.Common.{arith}
use Rattle.std.proofs.lemmas.Grind.{common_steps}
use Rattle.c_expr.proofs.Parts.{settled_more, tallest_more}
use Rattle.c_expr.proofs.make.over.Goals as goal

pub loop-part-preserved : goal.loop-part-preserved
loop-part-preserved c = record {
  kids = cc (settled_more c.args.span.from c.loop-part.yielded c.in-Some.part, c.in_ok-push.ensures.items);
  depth = grind (arith, common_steps, tallest_more c.loop-part.yielded c.in-Some.part, c.loop-part.invariant.depth);
}
