use Rattle.std.proofs.Common.{arith, sym, refl, zero, suc, length, ◌-◌, ◌++◌, ◌∷◌, [], true, false}
use Rattle.py_expr.specs.Words.{class}
use Rattle.py_expr.specs.declared.word.Word.TheVariants as words
use Rattle.py_suite.specs.Table as rows
use Rattle.py_suite.specs.Table.{Simple, LineTail}
use Rattle.py_suite.proofs.Rounds as by
use Rattle.py_suite.proofs.Rounds.{parted_more, along_turned, has_one}
use Rattle.py_suite.specs.reader.Reading as reading
use Rattle.py_suite.proofs.Forms.{passed_on}
use Rattle.py_suite.proofs.Rounds.{parted_end, parted_last, parted_lost}
use Rattle.py_suite.proofs.line.more_simples.Goals as goal

pub loop-turn-preserved : goal.loop-turn-preserved
loop-turn-preserved c = record {
  within = c.in_ok-kid.ensures.within;
  turns = omega arith;
  rest = parted_more c.args.items.now c.args.room (class words.Semicolon ∷ []) Simple LineTail (suc (length c.args.items.now) - c.loop-turn.turn) by.line (omega arith) _ c.loop-turn.kids _ c.loop-turn.end c.in_ok-kid.next _ c.in_ok-kid.kid c.loop-turn.invariant.rest (omega arith) (has_one (class words.Semicolon) _ true (sym c.if-not-is.ensures.test)) (sym c.if-not-starts_simple.ensures) c.in_ok-kid.ensures.gives c.in_ok-push.ensures.ok;
}

pub returns-clause-gives : goal.returns-clause-gives
returns-clause-gives c = elim c.loop-turn-test.branch [
  | goal.else-loop-turn-test w ↦ along_turned c.args.items.now c.args.room LineTail (rows.parted (class words.Semicolon ∷ []) Simple) (suc (length c.args.items.now) - c.loop-turn.turn) c.loop-turn.end _ c.loop-turn.kids c.loop-turn.invariant.rest (omega arith)
  | goal.then-loop-turn-test+else-not-is+else-not-starts_simple+in_ok-kid+in_ok-push+else-turn-turn-end w ↦ along_turned c.args.items.now c.args.room LineTail (rows.parted (class words.Semicolon ∷ []) Simple) zero w.in_ok-kid.next _ (c.loop-turn.kids ++ w.in_ok-kid.kid ∷ [])
      (parted_more c.args.items.now c.args.room (class words.Semicolon ∷ []) Simple LineTail (suc (length c.args.items.now) - c.loop-turn.turn) by.line (omega arith) _ c.loop-turn.kids zero c.loop-turn.end w.in_ok-kid.next (c.loop-turn.kids ++ w.in_ok-kid.kid ∷ []) w.in_ok-kid.kid c.loop-turn.invariant.rest (omega arith) (has_one (class words.Semicolon) _ true (sym w.if-not-is.ensures.test)) (sym w.if-not-starts_simple.ensures) w.in_ok-kid.ensures.gives refl)
      refl
]

pub returns-then-not-is-clause-gives : goal.returns-then-not-is-clause-gives
returns-then-not-is-clause-gives c = parted_end c.args.items.now c.args.room (class words.Semicolon ∷ []) Simple LineTail (suc (length c.args.items.now) - c.loop-turn.turn) by.line (omega arith) _ c.loop-turn.kids c.loop-turn.end c.loop-turn.invariant.rest (has_one (class words.Semicolon) _ false (sym c.if-not-is.ensures.test))

pub returns-then-not-starts_simple-clause-gives : goal.returns-then-not-starts_simple-clause-gives
returns-then-not-starts_simple-clause-gives c = parted_last c.args.items.now c.args.room (class words.Semicolon ∷ []) Simple LineTail (suc (length c.args.items.now) - c.loop-turn.turn) by.line (omega arith) _ c.loop-turn.kids c.loop-turn.end c.loop-turn.invariant.rest (has_one (class words.Semicolon) _ true (sym c.if-not-is.ensures.test)) (sym c.if-not-starts_simple.ensures)

pub returns-in_err-kid-clause-gives : goal.returns-in_err-kid-clause-gives
returns-in_err-kid-clause-gives c = passed_on reading.all reading.one c.from_residual.result c.in_err-kid.field-0.0 _ _ c.from_residual.ensures.1 c.in_err-kid.ensures.gives (λ none. parted_lost c.args.items.now c.args.room (class words.Semicolon ∷ []) Simple LineTail (suc (length c.args.items.now) - c.loop-turn.turn) by.line (omega arith) _ c.loop-turn.kids c.loop-turn.end c.loop-turn.invariant.rest (has_one (class words.Semicolon) _ true (sym c.if-not-is.ensures.test)) (sym c.if-not-starts_simple.ensures) none)
