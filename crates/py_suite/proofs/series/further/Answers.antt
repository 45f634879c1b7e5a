use Rattle.std.proofs.Common.{arith, sym, refl, zero, suc, length, ◌-◌, ◌++◌, ◌∷◌, []}
use Rattle.py_suite.specs.Table.{looped}
use Rattle.py_suite.specs.reader.Reading.{row_of, tail_of}
use Rattle.py_suite.proofs.Rounds.{series_more, along_turned}
use Rattle.py_suite.specs.reader.Reading as reading
use Rattle.py_suite.proofs.Forms.{passed_on}
use Rattle.py_suite.proofs.Rounds.{series_lost}
use Rattle.py_suite.proofs.series.further.Goals as goal

pub loop-turn-preserved : goal.loop-turn-preserved
loop-turn-preserved c = record {
  within = c.in_ok-kid.ensures.within;
  turns = omega arith;
  rest = series_more c.args.items.now c.args.room c.args.series _ _ c.loop-turn.end c.in_ok-kid.next _ c.loop-turn.kids _ c.in_ok-kid.kid c.loop-turn.invariant.rest (omega arith) (omega arith) (sym c.if-not-goes_on.ensures.test) c.in_ok-kid.ensures.gives c.in_ok-push.ensures.ok;
}

pub returns-clause-gives : goal.returns-clause-gives
returns-clause-gives c = elim c.loop-turn-test.branch [
  | goal.else-loop-turn-test w ↦ along_turned c.args.items.now c.args.room (tail_of c.args.series) (looped (row_of c.args.series)) (suc (length c.args.items.now) - c.loop-turn.turn) c.loop-turn.end _ c.loop-turn.kids c.loop-turn.invariant.rest (omega arith)
  | goal.then-loop-turn-test+else-not-goes_on+in_ok-kid+in_ok-push+else-turn-turn-end w ↦ along_turned c.args.items.now c.args.room (tail_of c.args.series) (looped (row_of c.args.series)) zero w.in_ok-kid.next _ (c.loop-turn.kids ++ w.in_ok-kid.kid ∷ [])
      (series_more c.args.items.now c.args.room c.args.series (suc (length c.args.items.now) - c.loop-turn.turn) zero c.loop-turn.end w.in_ok-kid.next _ c.loop-turn.kids (c.loop-turn.kids ++ w.in_ok-kid.kid ∷ []) w.in_ok-kid.kid c.loop-turn.invariant.rest (omega arith) (omega arith) (sym w.if-not-goes_on.ensures.test) w.in_ok-kid.ensures.gives refl)
      refl
]

pub returns-in_err-kid-clause-gives : goal.returns-in_err-kid-clause-gives
returns-in_err-kid-clause-gives c = passed_on reading.all reading.one c.from_residual.result c.in_err-kid.field-0.0 _ _ c.from_residual.ensures.1 c.in_err-kid.ensures.gives (λ none. series_lost c.args.items.now c.args.room c.args.series (suc (length c.args.items.now) - c.loop-turn.turn) c.loop-turn.end _ c.loop-turn.kids c.loop-turn.invariant.rest (omega arith) (sym c.if-not-goes_on.ensures.test) none)
