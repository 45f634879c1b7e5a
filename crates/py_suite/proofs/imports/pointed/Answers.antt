use Rattle.std.proofs.Common.{arith, sym, refl, zero, suc, length, ◌-◌, ◌+◌, ◌++◌, ◌∷◌, append_assoc}
use Rattle.std.proofs.lemmas.Grind.{common_steps}
use Rattle.py_suite.proofs.Rounds.{pointed_more, pointed_turned}
use Rattle.py_expr.specs.Build.{token_at}
use Rattle.py_suite.proofs.imports.pointed.Goals as goal
use Rattle.py_suite.proofs.imports.pointed.Goals.{else-loop-turn-test, then-loop-turn-test+else-not-is+else-not-is-2+in_ok-push+in_ok-push-2+else-turn-turn-end}

pub loop-turn-preserved : goal.loop-turn-preserved
loop-turn-preserved c = record {
  within = grind (arith, common_steps);
  turns = omega arith;
  rest = pointed_more c.args.items.now c.args.room (suc (length c.args.items.now) - c.loop-turn.turn) c.loop-turn.end _ c.loop-turn.text (omega arith) _ _ _ c.loop-turn.invariant.rest (omega arith) (omega arith) (sym c.if-not-is.ensures.test) (sym c.if-not-is-2.ensures.test) (grind (arith, common_steps, append_assoc));
}

pub returns-clause-gives : goal.returns-clause-gives
returns-clause-gives c = elim c.loop-turn-test.branch [
  | else-loop-turn-test w ↦ pointed_turned c.args.items.now c.args.room (suc (length c.args.items.now) - c.loop-turn.turn) c.loop-turn.end _ c.loop-turn.text c.loop-turn.invariant.rest (omega arith)
  | then-loop-turn-test+else-not-is+else-not-is-2+in_ok-push+in_ok-push-2+else-turn-turn-end w ↦ pointed_turned c.args.items.now c.args.room zero (c.loop-turn.end + 2) _ (c.loop-turn.text ++ (46 ∷ (token_at c.args.items.now (c.loop-turn.end + 1)).text))
      (pointed_more c.args.items.now c.args.room (suc (length c.args.items.now) - c.loop-turn.turn) c.loop-turn.end _ c.loop-turn.text (omega arith) zero (c.loop-turn.end + 2) (c.loop-turn.text ++ (46 ∷ (token_at c.args.items.now (c.loop-turn.end + 1)).text)) c.loop-turn.invariant.rest (omega arith) refl (sym w.if-not-is.ensures.test) (sym w.if-not-is-2.ensures.test) refl)
      refl
]
