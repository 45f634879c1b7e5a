use Rattle.std.proofs.Common.{arith, sym, refl, zero, suc, length, ◌-◌, ◌+◌, ◌++◌}
use Rattle.std.proofs.lemmas.Grind.{common_steps}
use Rattle.py_suite.proofs.Rounds.{points_more, points_turned}
use Rattle.py_expr.specs.Build.{token_at}
use Rattle.py_suite.proofs.imports.points.Goals as goal
use Rattle.py_suite.proofs.imports.points.Goals.{else-loop-turn-test, then-loop-turn-test+else-not-is_point+in_ok-push+else-turn-turn-end}

pub loop-turn-preserved : goal.loop-turn-preserved
loop-turn-preserved c = record {
  within = omega (arith, c.if-not-is_point.ensures.within refl);
  turns = omega arith;
  rest = points_more c.args.items.now c.args.room (suc (length c.args.items.now) - c.loop-turn.turn) c.loop-turn.end _ c.loop-turn.text (omega arith) _ _ _ c.loop-turn.invariant.rest (omega arith) (omega arith) (sym c.if-not-is_point.ensures.test) (grind (arith, common_steps));
}

pub returns-clause-gives : goal.returns-clause-gives
returns-clause-gives c = elim c.loop-turn-test.branch [
  | else-loop-turn-test w ↦ points_turned c.args.items.now c.args.room (suc (length c.args.items.now) - c.loop-turn.turn) c.loop-turn.end _ c.loop-turn.text c.loop-turn.invariant.rest (omega arith)
  | then-loop-turn-test+else-not-is_point+in_ok-push+else-turn-turn-end w ↦ points_turned c.args.items.now c.args.room zero (c.loop-turn.end + 1) _ (c.loop-turn.text ++ (token_at c.args.items.now c.loop-turn.end).text)
      (points_more c.args.items.now c.args.room (suc (length c.args.items.now) - c.loop-turn.turn) c.loop-turn.end _ c.loop-turn.text (omega arith) zero (c.loop-turn.end + 1) (c.loop-turn.text ++ (token_at c.args.items.now c.loop-turn.end).text) c.loop-turn.invariant.rest (omega arith) refl (sym w.if-not-is_point.ensures.test) refl)
      refl
]
