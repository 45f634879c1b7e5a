use Rattle.std.proofs.Common.{arith, sym, refl, zero, suc, length, ◌-◌, ◌++◌, ◌∷◌, []}
use Rattle.py_expr.specs.Table.{commas}
use Rattle.py_suite.specs.Table as rows
use Rattle.py_suite.specs.Table.{Alias, MoreAliasesTail}
use Rattle.py_suite.proofs.Rounds as by
use Rattle.py_suite.proofs.Rounds.{parted_more, along_turned}
use Rattle.py_suite.specs.reader.Reading as reading
use Rattle.py_suite.proofs.Forms.{passed_on}
use Rattle.py_suite.proofs.Rounds.{parted_end, parted_last, parted_lost}
use Rattle.py_suite.proofs.imports.more_aliases.Goals as goal

pub loop-turn-preserved : goal.loop-turn-preserved
loop-turn-preserved c = record {
  within = c.in_ok-kid.ensures.within;
  turns = omega arith;
  rest = parted_more c.args.items.now c.args.room commas Alias MoreAliasesTail (suc (length c.args.items.now) - c.loop-turn.turn) by.aliases (omega arith) _ c.loop-turn.kids _ c.loop-turn.end c.in_ok-kid.next _ c.in_ok-kid.kid c.loop-turn.invariant.rest (omega arith) (sym c.if-not-is_comma.ensures.test) (sym c.if-not-starts_alias.ensures) c.in_ok-kid.ensures.gives c.in_ok-push.ensures.ok;
}

pub returns-clause-gives : goal.returns-clause-gives
returns-clause-gives c = elim c.loop-turn-test.branch [
  | goal.else-loop-turn-test w ↦ along_turned c.args.items.now c.args.room MoreAliasesTail (rows.parted commas Alias) (suc (length c.args.items.now) - c.loop-turn.turn) c.loop-turn.end _ c.loop-turn.kids c.loop-turn.invariant.rest (omega arith)
  | goal.then-loop-turn-test+else-not-is_comma+else-not-starts_alias+in_ok-kid+in_ok-push+else-turn-turn-end w ↦ along_turned c.args.items.now c.args.room MoreAliasesTail (rows.parted commas Alias) zero w.in_ok-kid.next _ (c.loop-turn.kids ++ w.in_ok-kid.kid ∷ [])
      (parted_more c.args.items.now c.args.room commas Alias MoreAliasesTail (suc (length c.args.items.now) - c.loop-turn.turn) by.aliases (omega arith) _ c.loop-turn.kids zero c.loop-turn.end w.in_ok-kid.next (c.loop-turn.kids ++ w.in_ok-kid.kid ∷ []) w.in_ok-kid.kid c.loop-turn.invariant.rest (omega arith) (sym w.if-not-is_comma.ensures.test) (sym w.if-not-starts_alias.ensures) w.in_ok-kid.ensures.gives refl)
      refl
]

pub returns-then-not-is_comma-clause-gives : goal.returns-then-not-is_comma-clause-gives
returns-then-not-is_comma-clause-gives c = parted_end c.args.items.now c.args.room commas Alias MoreAliasesTail (suc (length c.args.items.now) - c.loop-turn.turn) by.aliases (omega arith) _ c.loop-turn.kids c.loop-turn.end c.loop-turn.invariant.rest (sym c.if-not-is_comma.ensures.test)

pub returns-then-not-starts_alias-clause-gives : goal.returns-then-not-starts_alias-clause-gives
returns-then-not-starts_alias-clause-gives c = parted_last c.args.items.now c.args.room commas Alias MoreAliasesTail (suc (length c.args.items.now) - c.loop-turn.turn) by.aliases (omega arith) _ c.loop-turn.kids c.loop-turn.end c.loop-turn.invariant.rest (sym c.if-not-is_comma.ensures.test) (sym c.if-not-starts_alias.ensures)

pub returns-in_err-kid-clause-gives : goal.returns-in_err-kid-clause-gives
returns-in_err-kid-clause-gives c = passed_on reading.all reading.one c.from_residual.result c.in_err-kid.field-0.0 _ _ c.from_residual.ensures.1 c.in_err-kid.ensures.gives (λ none. parted_lost c.args.items.now c.args.room commas Alias MoreAliasesTail (suc (length c.args.items.now) - c.loop-turn.turn) by.aliases (omega arith) _ c.loop-turn.kids c.loop-turn.end c.loop-turn.invariant.rest (sym c.if-not-is_comma.ensures.test) (sym c.if-not-starts_alias.ensures) none)
