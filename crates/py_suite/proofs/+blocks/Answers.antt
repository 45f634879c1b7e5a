use Rattle.std.proofs.Common.{arith, sym, refl, ap, true, false, zero, suc, length, ◌∙◌, ◌-◌, ◌+◌, ◌++◌, ◌∷◌, []}
use Rattle.node_tree.specs.declared.kind.Kind.TheVariants as k
use Rattle.grammar.specs.Rule.{ref}
use Rattle.py_expr.specs.declared.word.Word.TheVariants as words
use Rattle.py_expr.specs.Words.{class}
use Rattle.py_expr.specs.Build.{token_at, empty_list}
use Rattle.py_suite.specs.Table.{Stmt, StmtsTail, Handler, HandlersTail, TryRest, DefRest, ClassRest, looped}
use Rattle.py_suite.specs.reader.Reading as reading
use Rattle.py_suite.specs.reader.Reading.{level}
use Rattle.py_suite.proofs.Rounds as by
use Rattle.py_suite.proofs.Rounds.{chained_more, chained_end, chained_lost, along_turned, has_one, statements_rest}
use Rattle.py_suite.proofs.Forms.{passed_on, collected_some, collected_none}
use Rattle.py_suite.proofs.Suites.{gives_same, stmts_read, suite_line, suite_block, if_alone, if_more, branches_alone, branches_more, else_alone, else_more, while_read, while_none, for_rest_read, for_read, with_read, tried_over, def_over, class_over, waited_for, waited_with, waited_over, decorated_async, decorated_def, decorated_class, over_read, over_lost}
use Rattle.py_suite.proofs.Compounds.{body_read, branches_else, else_read, finally_read, else_kid, handlers_read, handler_read, handler_none, handler_open, try_finally, try_no_else, try_no_finally, handled_alone, handled_finally, handled_none, handled_no_else, handled_no_finally}
use Rattle.py_suite.proofs.Defined.{class_rest_read, def_rest_read, def_rest_no_body}
use Rattle.py_suite.proofs.+blocks.Goals as goal

pub blocks::statements-returns-clause-gives : goal.blocks::statements-returns-clause-gives
blocks::statements-returns-clause-gives t c = gives_same reading.all c.more_statements.result _ _ (stmts_read c.args.items.now c.args.room c.args.at c.in_ok-kids.end c.in_ok-kids.kids (grind (arith, c.if-room-eq0.false)) c.in_ok-kids.ensures.gives) c.more_statements.ensures.gives

pub blocks::more_statements-returns-then-not-starts_statement-clause-gives : goal.blocks::more_statements-returns-then-not-starts_statement-clause-gives
blocks::more_statements-returns-then-not-starts_statement-clause-gives t c = chained_end c.args.items.now c.args.room Stmt StmtsTail (suc (length c.args.items.now) - c.loop-turn.turn) c.loop-turn.end _ c.loop-turn.kids by.statements c.loop-turn.invariant.rest (omega arith) (sym c.if-not-starts_statement.ensures)

pub blocks::more_statements-returns-in_err-more-clause-gives : goal.blocks::more_statements-returns-in_err-more-clause-gives
blocks::more_statements-returns-in_err-more-clause-gives t c = passed_on reading.all reading.all c.from_residual.result c.in_err-more.field-0.0 _ _ c.from_residual.ensures.1 c.in_err-more.ensures.gives (λ none. chained_lost c.args.items.now c.args.room Stmt StmtsTail (suc (length c.args.items.now) - c.loop-turn.turn) c.loop-turn.end _ c.loop-turn.kids by.statements c.loop-turn.invariant.rest (omega arith) (sym c.if-not-starts_statement.ensures) none)

pub blocks::more_statements-loop-turn-preserved : goal.blocks::more_statements-loop-turn-preserved
blocks::more_statements-loop-turn-preserved t c = record {
  within = c.in_ok-more.ensures.within;
  turns = omega arith;
  rest = chained_more c.args.items.now c.args.room Stmt StmtsTail (suc (length c.args.items.now) - c.loop-turn.turn) _ c.loop-turn.end c.in_ok-more.next _ c.loop-turn.kids c.in_ok-more.more _ by.statements c.loop-turn.invariant.rest (omega arith) (omega arith) (sym c.if-not-starts_statement.ensures) c.in_ok-more.ensures.gives c.in_ok-kids.ensures;
}

pub blocks::more_statements-loop-turn-init : goal.blocks::more_statements-loop-turn-init
blocks::more_statements-loop-turn-init t c = record {
  within = omega arith;
  turns = omega arith;
  rest = ap (reading.along c.args.kids) (statements_rest c.args.items.now c.args.room c.args.at (suc (length c.args.items.now) - zero) (omega arith));
}

pub blocks::more_statements-returns-clause-gives : goal.blocks::more_statements-returns-clause-gives
blocks::more_statements-returns-clause-gives t c = elim c.loop-turn-test.branch [
  | goal.blocks::more_statements-else-loop-turn-test w ↦ along_turned c.args.items.now c.args.room StmtsTail (looped (ref Stmt)) (suc (length c.args.items.now) - c.loop-turn.turn) c.loop-turn.end _ c.loop-turn.kids c.loop-turn.invariant.rest (omega arith)
  | goal.blocks::more_statements-then-loop-turn-test+else-not-starts_statement+in_ok-more+in_ok-kids+else-turn-turn-end w ↦ along_turned c.args.items.now c.args.room StmtsTail (looped (ref Stmt)) zero w.in_ok-more.next _ (c.loop-turn.kids ++ w.in_ok-more.more)
      (chained_more c.args.items.now c.args.room Stmt StmtsTail (suc (length c.args.items.now) - c.loop-turn.turn) zero c.loop-turn.end w.in_ok-more.next _ c.loop-turn.kids w.in_ok-more.more (c.loop-turn.kids ++ w.in_ok-more.more) by.statements c.loop-turn.invariant.rest (omega arith) (omega arith) (sym w.if-not-starts_statement.ensures) w.in_ok-more.ensures.gives refl)
      refl
]

pub blocks::suite-returns-then-not-is-clause-gives : goal.blocks::suite-returns-then-not-is-clause-gives
blocks::suite-returns-then-not-is-clause-gives t c = suite_line c.args.items.now c.args.room c.args.at c.in_ok-kids.end c.in_ok-kids.kids c.in_ok-plain.field-0 (grind (arith, c.if-room-eq0.false)) (sym c.if-not-is.ensures.test) c.in_ok-kids.ensures.gives c.in_ok-plain.ensures

pub blocks::suite-returns-clause-gives : goal.blocks::suite-returns-clause-gives
blocks::suite-returns-clause-gives t c = suite_block c.args.items.now c.args.room c.args.at c.in_ok-kids-2.end c.in_ok-kids-2.kids c.in_ok-plain-2.field-0 (grind (arith, c.if-room-eq0.false)) (sym c.if-not-is.ensures.test) (sym c.if-not-is-2.ensures.test) c.in_ok-kids-2.ensures.gives (sym c.if-not-is-3.ensures.test) c.in_ok-plain-2.ensures

pub compound::body-returns-clause-gives : goal.compound::body-returns-clause-gives
compound::body-returns-clause-gives t c = gives_same reading.one c.suite.result _ _ (body_read c.args.items.now c.args.room c.args.at (sym c.if-not-is.ensures.test)) c.suite.ensures.gives

pub compound::branches-returns-then-not-is-clause-gives : goal.compound::branches-returns-then-not-is-clause-gives
compound::branches-returns-then-not-is-clause-gives t c = gives_same reading.one c.else_part.result _ _ (branches_else c.args.items.now c.args.room c.args.at (grind (arith, c.if-room-eq0.false)) (sym c.if-not-is.ensures.test)) c.else_part.ensures.gives

pub compound::else_part-returns-clause-gives : goal.compound::else_part-returns-clause-gives
compound::else_part-returns-clause-gives t c = gives_same reading.one c.body.result _ _ (else_read c.args.items.now c.args.room c.args.at (grind (arith, c.if-room-eq0.false)) (sym c.if-not-is.ensures.test)) c.body.ensures.gives

pub compound::finally_part-returns-clause-gives : goal.compound::finally_part-returns-clause-gives
compound::finally_part-returns-clause-gives t c = gives_same reading.one c.body.result _ _ (finally_read c.args.items.now c.args.room c.args.at (grind (arith, c.if-room-eq0.false)) (sym c.if-not-is.ensures.test)) c.body.ensures.gives

pub compound::else_or_absent-returns-clause-gives : goal.compound::else_or_absent-returns-clause-gives
compound::else_or_absent-returns-clause-gives t c = else_kid c.args.items.now c.args.room c.args.from c.args.at c.else_part.result (sym c.if-not-is.ensures.test) c.else_part.ensures.gives

pub compound::if_statement-returns-then-not-starts_branches-clause-gives : goal.compound::if_statement-returns-then-not-starts_branches-clause-gives
compound::if_statement-returns-then-not-starts_branches-clause-gives t c = if_alone c.args.items.now c.args.room c.args.at c.in_ok-kids.end c.in_ok-kids.kids c.in_ok-plain.field-0 (grind (arith, c.if-room-eq0.false)) (sym c.if-not-is.ensures.test) c.in_ok-kids.ensures.gives (sym c.if-not-starts_branches.ensures) c.in_ok-plain.ensures

pub compound::if_statement-returns-clause-gives : goal.compound::if_statement-returns-clause-gives
compound::if_statement-returns-clause-gives t c = if_more c.args.items.now c.args.room c.args.at c.in_ok-kids.end c.in_ok-other.end c.in_ok-kids.kids _ c.in_ok-other.other c.in_ok-plain-2.field-0 (grind (arith, c.if-room-eq0.false)) (sym c.if-not-is.ensures.test) c.in_ok-kids.ensures.gives (sym c.if-not-starts_branches.ensures) c.in_ok-other.ensures.gives c.in_ok-push.ensures.ok c.in_ok-plain-2.ensures

pub compound::branches-returns-then-not-starts_branches-clause-gives : goal.compound::branches-returns-then-not-starts_branches-clause-gives
compound::branches-returns-then-not-starts_branches-clause-gives t c = branches_alone c.args.items.now c.args.room c.args.at c.in_ok-kids.end c.in_ok-kids.kids c.in_ok-plain.field-0 (grind (arith, c.if-room-eq0.false)) (sym c.if-not-is.ensures.test) c.in_ok-kids.ensures.gives (sym c.if-not-starts_branches.ensures) c.in_ok-plain.ensures

pub compound::branches-returns-clause-gives : goal.compound::branches-returns-clause-gives
compound::branches-returns-clause-gives t c = branches_more c.args.items.now c.args.room c.args.at c.in_ok-kids.end c.in_ok-other.end c.in_ok-kids.kids _ c.in_ok-other.other c.in_ok-plain-2.field-0 (grind (arith, c.if-room-eq0.false)) (sym c.if-not-is.ensures.test) c.in_ok-kids.ensures.gives (sym c.if-not-starts_branches.ensures) c.in_ok-other.ensures.gives c.in_ok-push.ensures.ok c.in_ok-plain-2.ensures

pub compound::some_else-returns-then-not-is-clause-gives : goal.compound::some_else-returns-then-not-is-clause-gives
compound::some_else-returns-then-not-is-clause-gives t c = else_alone c.args.items.now c.args.room c.args.at c.args.kids (sym c.if-not-is.ensures.test)

pub compound::some_else-returns-clause-gives : goal.compound::some_else-returns-clause-gives
compound::some_else-returns-clause-gives t c = else_more c.args.items.now c.args.room c.args.at c.in_ok-block.end c.args.kids _ c.in_ok-block.block (sym c.if-not-is.ensures.test) c.in_ok-block.ensures.gives c.in_ok-push.ensures.ok

pub compound::while_loop-returns-clause-gives : goal.compound::while_loop-returns-clause-gives
compound::while_loop-returns-clause-gives t c = while_read c.args.items.now c.args.room c.args.at c.in_ok-kids.end c.in_ok-kids-2.end c.in_ok-kids.kids c.in_ok-kids-2.kids c.in_ok-plain.field-0 (grind (arith, c.if-room-eq0.false)) (sym c.if-not-is.ensures.test) c.in_ok-kids.ensures.gives c.in_ok-kids-2.ensures.gives c.in_ok-plain.ensures

pub compound::while_loop-returns-in_err-kids-2-clause-gives : goal.compound::while_loop-returns-in_err-kids-2-clause-gives
compound::while_loop-returns-in_err-kids-2-clause-gives t c = passed_on reading.one reading.all c.from_residual-in_err-kids-2.result c.in_err-kids-2.field-0.0 _ _ c.from_residual-in_err-kids-2.ensures.1 c.in_err-kids-2.ensures.gives (λ none. while_none c.args.items.now c.args.room c.args.at c.in_ok-kids.end c.in_ok-kids.kids (grind (arith, c.if-room-eq0.false)) (sym c.if-not-is.ensures.test) c.in_ok-kids.ensures.gives none)

pub compound::for_rest-returns-clause-gives : goal.compound::for_rest-returns-clause-gives
compound::for_rest-returns-clause-gives t c = gives_same reading.all c.some_else.result _ _ (for_rest_read c.args.items.now c.args.room c.args.at c.in_ok-target.end c.in_ok-iterable.end c.in_ok-block.end c.in_ok-target.target c.in_ok-iterable.iterable c.in_ok-block.block (grind (arith, c.if-room-eq0.false)) c.in_ok-target.ensures.gives (sym c.if-not-is.ensures.test) c.in_ok-iterable.ensures.gives c.in_ok-block.ensures.gives) (rw c.in_ok-kids.ensures at c.some_else.ensures.gives)

pub compound::for_loop-returns-clause-gives : goal.compound::for_loop-returns-clause-gives
compound::for_loop-returns-clause-gives t c = for_read c.args.items.now c.args.room c.args.at c.in_ok-kids.end c.in_ok-kids.kids c.in_ok-plain.field-0 (grind (arith, c.if-room-eq0.false)) (sym c.if-not-is.ensures.test) c.in_ok-kids.ensures.gives c.in_ok-plain.ensures

pub compound::with_block-returns-clause-gives : goal.compound::with_block-returns-clause-gives
compound::with_block-returns-clause-gives t c = with_read c.args.items.now c.args.room c.args.at c.in_ok-kids.end c.in_ok-kids.kids c.in_ok-plain.field-0 (grind (arith, c.if-room-eq0.false)) (sym c.if-not-is.ensures.test) c.in_ok-kids.ensures.gives c.in_ok-plain.ensures

pub compound::tried-returns-clause-gives : goal.compound::tried-returns-clause-gives
compound::tried-returns-clause-gives t c = tried_over c.args.items.now c.args.room c.args.at c.in_ok-block.end c.in_ok-block.block (grind (arith, c.if-room-eq0.false)) (sym c.if-not-is.ensures.test) c.in_ok-block.ensures.gives ∙ over_read c.args.items.now k.Try c.args.at c.in_ok-kids-2.end [] (c.in_ok-block.block ∷ []) c.in_ok-kids-2.kids c.in_ok-plain.field-0 (level c.args.items.now c.args.room TryRest c.in_ok-block.end) c.start_at-from.result c.start_at-from.ensures (rw c.in_ok-kids.ensures at c.in_ok-kids-2.ensures.gives) c.in_ok-plain.ensures

pub compound::tried-returns-in_err-kids-2-clause-gives : goal.compound::tried-returns-in_err-kids-2-clause-gives
compound::tried-returns-in_err-kids-2-clause-gives t c = passed_on reading.one reading.kids_alone c.from_residual-in_err-kids-2.result c.in_err-kids-2.field-0.0 _ _ c.from_residual-in_err-kids-2.ensures.1 (rw c.in_ok-kids.ensures at c.in_err-kids-2.ensures.gives) (λ none. tried_over c.args.items.now c.args.room c.args.at c.in_ok-block.end c.in_ok-block.block (grind (arith, c.if-room-eq0.false)) (sym c.if-not-is.ensures.test) c.in_ok-block.ensures.gives ∙ over_lost c.args.items.now k.Try c.args.at [] (c.in_ok-block.block ∷ []) (level c.args.items.now c.args.room TryRest c.in_ok-block.end) c.start_at-from.result none)

pub compound::handlers-returns-in_err-kids-2-clause-gives : goal.compound::handlers-returns-in_err-kids-2-clause-gives
compound::handlers-returns-in_err-kids-2-clause-gives t c = passed_on reading.one reading.all c.from_residual-in_err-kids-2.result c.in_err-kids-2.field-0.0 _ _ c.from_residual-in_err-kids-2.ensures.1 (rw c.in_ok-kids.ensures at c.in_err-kids-2.ensures.gives) (λ none. handlers_read c.args.items.now c.args.room c.args.at c.in_ok-first.end c.in_ok-first.first (grind (arith, c.if-room-eq0.false)) c.in_ok-first.ensures.gives ∙ collected_none c.args.items.now k.List c.args.at _ none)

pub compound::handlers-returns-clause-gives : goal.compound::handlers-returns-clause-gives
compound::handlers-returns-clause-gives t c = handlers_read c.args.items.now c.args.room c.args.at c.in_ok-first.end c.in_ok-first.first (grind (arith, c.if-room-eq0.false)) c.in_ok-first.ensures.gives ∙ collected_some c.args.items.now k.List c.args.at c.in_ok-kids-2.end _ c.in_ok-kids-2.kids _ refl (rw c.in_ok-kids.ensures at c.in_ok-kids-2.ensures.gives) c.in_ok-plain.ensures

pub compound::more_handlers-returns-then-not-is-clause-gives : goal.compound::more_handlers-returns-then-not-is-clause-gives
compound::more_handlers-returns-then-not-is-clause-gives t c = chained_end c.args.items.now c.args.room Handler HandlersTail (suc (length c.args.items.now) - c.loop-turn.turn) c.loop-turn.end _ c.loop-turn.kids by.handlers c.loop-turn.invariant.rest (omega arith) (has_one (class words.Except) _ false (sym c.if-not-is.ensures.test))

pub compound::more_handlers-returns-in_err-kid-clause-gives : goal.compound::more_handlers-returns-in_err-kid-clause-gives
compound::more_handlers-returns-in_err-kid-clause-gives t c = passed_on reading.all reading.one c.from_residual.result c.in_err-kid.field-0.0 _ _ c.from_residual.ensures.1 c.in_err-kid.ensures.gives (λ none. chained_lost c.args.items.now c.args.room Handler HandlersTail (suc (length c.args.items.now) - c.loop-turn.turn) c.loop-turn.end _ c.loop-turn.kids by.handlers c.loop-turn.invariant.rest (omega arith) (has_one (class words.Except) _ true (sym c.if-not-is.ensures.test)) none)

pub compound::more_handlers-loop-turn-preserved : goal.compound::more_handlers-loop-turn-preserved
compound::more_handlers-loop-turn-preserved t c = record {
  within = c.in_ok-kid.ensures.within;
  turns = omega arith;
  rest = chained_more c.args.items.now c.args.room Handler HandlersTail (suc (length c.args.items.now) - c.loop-turn.turn) _ c.loop-turn.end c.in_ok-kid.next _ c.loop-turn.kids (c.in_ok-kid.kid ∷ []) _ by.handlers c.loop-turn.invariant.rest (omega arith) (omega arith) (has_one (class words.Except) _ true (sym c.if-not-is.ensures.test)) c.in_ok-kid.ensures.gives c.in_ok-push.ensures.ok;
}

pub compound::more_handlers-returns-clause-gives : goal.compound::more_handlers-returns-clause-gives
compound::more_handlers-returns-clause-gives t c = elim c.loop-turn-test.branch [
  | goal.compound::more_handlers-else-loop-turn-test w ↦ along_turned c.args.items.now c.args.room HandlersTail (looped (ref Handler)) (suc (length c.args.items.now) - c.loop-turn.turn) c.loop-turn.end _ c.loop-turn.kids c.loop-turn.invariant.rest (omega arith)
  | goal.compound::more_handlers-then-loop-turn-test+else-not-is+in_ok-kid+in_ok-push+else-turn-turn-end w ↦ along_turned c.args.items.now c.args.room HandlersTail (looped (ref Handler)) zero w.in_ok-kid.next _ (c.loop-turn.kids ++ w.in_ok-kid.kid ∷ [])
      (chained_more c.args.items.now c.args.room Handler HandlersTail (suc (length c.args.items.now) - c.loop-turn.turn) zero c.loop-turn.end w.in_ok-kid.next _ c.loop-turn.kids (w.in_ok-kid.kid ∷ []) (c.loop-turn.kids ++ w.in_ok-kid.kid ∷ []) by.handlers c.loop-turn.invariant.rest (omega arith) (omega arith) (has_one (class words.Except) _ true (sym w.if-not-is.ensures.test)) w.in_ok-kid.ensures.gives refl)
      refl
]

pub compound::handler-returns-in_err-kind-clause-gives : goal.compound::handler-returns-in_err-kind-clause-gives
compound::handler-returns-in_err-kind-clause-gives t c = passed_on reading.one reading.two_kids c.from_residual.result c.in_err-kind.field-0.0 _ _ c.from_residual.ensures.1 (rw c.start_at.ensures at c.in_err-kind.ensures.gives) (λ none. handler_none c.args.items.now c.args.room c.args.at (grind (arith, c.if-room-eq0.false)) (sym c.if-not-is.ensures.test) none)

pub compound::handler-returns-in_err-block-clause-gives : goal.compound::handler-returns-in_err-block-clause-gives
compound::handler-returns-in_err-block-clause-gives t c = passed_on reading.one reading.one c.from_residual-in_err-block.result c.in_err-block.field-0.0 _ _ c.from_residual-in_err-block.ensures.1 c.in_err-block.ensures.gives (λ none. handler_open c.args.items.now c.args.room c.args.at c.in_ok-kind.end (c.in_ok-kind.kind ∷ c.in_ok-kind.name ∷ []) (grind (arith, c.if-room-eq0.false)) (sym c.if-not-is.ensures.test) (rw c.start_at.ensures at c.in_ok-kind.ensures.gives) none)

pub compound::handler-returns-clause-gives : goal.compound::handler-returns-clause-gives
compound::handler-returns-clause-gives t c = handler_read c.args.items.now c.args.room c.args.at c.in_ok-kind.end c.in_ok-block.end c.in_ok-kind.kind c.in_ok-kind.name c.in_ok-block.block c.in_ok-plain.field-0 (grind (arith, c.if-room-eq0.false)) (sym c.if-not-is.ensures.test) (rw c.start_at.ensures at c.in_ok-kind.ensures.gives) c.in_ok-block.ensures.gives (rw c.in_ok-kids.ensures at c.in_ok-plain.ensures)

pub compound::try_rest-returns-in_err-other-clause-gives : goal.compound::try_rest-returns-in_err-other-clause-gives
compound::try_rest-returns-in_err-other-clause-gives t c = passed_on reading.kids_alone reading.one_kid c.from_residual-in_err-other.result c.in_err-other.field-0.0 _ _ c.from_residual-in_err-other.ensures.1 c.in_err-other.ensures.gives (λ none. try_no_else c.args.items.now c.args.room c.args.from c.args.at c.args.kids c.args.kids c.args.kids (grind (arith, c.if-room-eq0.false)) (sym c.if-not-is.ensures.test) none)

pub compound::try_rest-returns-in_err-last-clause-gives : goal.compound::try_rest-returns-in_err-last-clause-gives
compound::try_rest-returns-in_err-last-clause-gives t c = passed_on reading.kids_alone reading.one c.from_residual-in_err-last.result c.in_err-last.field-0.0 _ _ c.from_residual-in_err-last.ensures.1 c.in_err-last.ensures.gives (λ none. try_no_finally c.args.items.now c.args.room c.args.from c.args.at c.args.kids c.args.kids c.args.kids (grind (arith, c.if-room-eq0.false)) c.in_ok-other.end c.in_ok-other.other (sym c.if-not-is.ensures.test) c.in_ok-other.ensures.gives none)

pub compound::try_rest-returns-then-not-is-clause-gives : goal.compound::try_rest-returns-then-not-is-clause-gives
compound::try_rest-returns-then-not-is-clause-gives t c = try_finally c.args.items.now c.args.room c.args.from c.args.at c.args.kids _ _ (grind (arith, c.if-room-eq0.false)) c.in_ok-other.end c.in_ok-last.end _ c.in_ok-other.other c.in_ok-last.last (sym c.if-not-is.ensures.test) c.in_ok-other.ensures.gives c.in_ok-last.ensures.gives (rw c.empty_list.ensures at c.in_ok-push.ensures.ok) c.in_ok-push-2.ensures.ok c.in_ok-push-3.ensures.ok

pub compound::try_rest-returns-in_err-list-clause-gives : goal.compound::try_rest-returns-in_err-list-clause-gives
compound::try_rest-returns-in_err-list-clause-gives t c = passed_on reading.kids_alone reading.one c.from_residual-in_err-list.result c.in_err-list.field-0.0 _ _ c.from_residual-in_err-list.ensures.1 c.in_err-list.ensures.gives (λ none. handled_none c.args.items.now c.args.room c.args.from c.args.at c.args.kids c.args.kids c.args.kids (grind (arith, c.if-room-eq0.false)) (sym c.if-not-is.ensures.test) none)

pub compound::try_rest-returns-in_err-other-2-clause-gives : goal.compound::try_rest-returns-in_err-other-2-clause-gives
compound::try_rest-returns-in_err-other-2-clause-gives t c = passed_on reading.kids_alone reading.one_kid c.from_residual-in_err-other-2.result c.in_err-other-2.field-0.0 _ _ c.from_residual-in_err-other-2.ensures.1 c.in_err-other-2.ensures.gives (λ none. handled_no_else c.args.items.now c.args.room c.args.from c.args.at c.args.kids c.args.kids c.args.kids (grind (arith, c.if-room-eq0.false)) c.in_ok-list.end c.in_ok-list.list (sym c.if-not-is.ensures.test) c.in_ok-list.ensures.gives none)

pub compound::try_rest-returns-then-not-is-2-clause-gives : goal.compound::try_rest-returns-then-not-is-2-clause-gives
compound::try_rest-returns-then-not-is-2-clause-gives t c = handled_alone c.args.items.now c.args.room c.args.from c.args.at c.args.kids _ _ (grind (arith, c.if-room-eq0.false)) c.in_ok-list.end c.in_ok-other-2.end c.in_ok-list.list c.in_ok-other-2.other (sym c.if-not-is.ensures.test) c.in_ok-list.ensures.gives c.in_ok-other-2.ensures.gives (sym c.if-not-is-2.ensures.test) c.in_ok-push-4.ensures.ok c.in_ok-push-5.ensures.ok

pub compound::try_rest-returns-in_err-last-2-clause-gives : goal.compound::try_rest-returns-in_err-last-2-clause-gives
compound::try_rest-returns-in_err-last-2-clause-gives t c = passed_on reading.kids_alone reading.one c.from_residual-in_err-last-2.result c.in_err-last-2.field-0.0 _ _ c.from_residual-in_err-last-2.ensures.1 c.in_err-last-2.ensures.gives (λ none. handled_no_finally c.args.items.now c.args.room c.args.from c.args.at c.args.kids c.args.kids c.args.kids (grind (arith, c.if-room-eq0.false)) c.in_ok-list.end c.in_ok-other-2.end c.in_ok-list.list c.in_ok-other-2.other (sym c.if-not-is.ensures.test) c.in_ok-list.ensures.gives c.in_ok-other-2.ensures.gives (sym c.if-not-is-2.ensures.test) none)

pub compound::try_rest-returns-clause-gives : goal.compound::try_rest-returns-clause-gives
compound::try_rest-returns-clause-gives t c = handled_finally c.args.items.now c.args.room c.args.from c.args.at c.args.kids _ _ (grind (arith, c.if-room-eq0.false)) c.in_ok-list.end c.in_ok-other-2.end c.in_ok-last-2.end _ c.in_ok-list.list c.in_ok-other-2.other c.in_ok-last-2.last (sym c.if-not-is.ensures.test) c.in_ok-list.ensures.gives c.in_ok-other-2.ensures.gives (sym c.if-not-is-2.ensures.test) c.in_ok-last-2.ensures.gives c.in_ok-push-4.ensures.ok c.in_ok-push-5.ensures.ok c.in_ok-push-6.ensures.ok

pub definitions::function-returns-clause-gives : goal.definitions::function-returns-clause-gives
definitions::function-returns-clause-gives t c = def_over c.args.items.now c.args.room c.args.at (grind (arith, c.if-room-eq0.false)) (sym c.if-not-is.ensures.test) ∙ over_read c.args.items.now k.FunctionDef c.args.at c.in_ok-kids-2.end [] (empty_list (token_at c.args.items.now c.args.at).span.from ∷ []) c.in_ok-kids-2.kids c.in_ok-plain.field-0 (level c.args.items.now c.args.room DefRest (c.args.at + 1)) (token_at c.args.items.now c.args.at).span.from refl (rw (c.in_ok-kids.ensures, c.empty_list.ensures, c.start_at-from.ensures) at c.in_ok-kids-2.ensures.gives) c.in_ok-plain.ensures

pub definitions::function-returns-in_err-kids-2-clause-gives : goal.definitions::function-returns-in_err-kids-2-clause-gives
definitions::function-returns-in_err-kids-2-clause-gives t c = passed_on reading.one reading.kids_alone c.from_residual-in_err-kids-2.result c.in_err-kids-2.field-0.0 _ _ c.from_residual-in_err-kids-2.ensures.1 (rw (c.in_ok-kids.ensures, c.empty_list.ensures, c.start_at-from.ensures) at c.in_err-kids-2.ensures.gives) (λ none. def_over c.args.items.now c.args.room c.args.at (grind (arith, c.if-room-eq0.false)) (sym c.if-not-is.ensures.test) ∙ over_lost c.args.items.now k.FunctionDef c.args.at [] (empty_list (token_at c.args.items.now c.args.at).span.from ∷ []) (level c.args.items.now c.args.room DefRest (c.args.at + 1)) (token_at c.args.items.now c.args.at).span.from none)

pub definitions::class-returns-clause-gives : goal.definitions::class-returns-clause-gives
definitions::class-returns-clause-gives t c = class_over c.args.items.now c.args.room c.args.at (grind (arith, c.if-room-eq0.false)) (sym c.if-not-is.ensures.test) ∙ over_read c.args.items.now k.ClassDef c.args.at c.in_ok-kids-2.end [] (empty_list (token_at c.args.items.now c.args.at).span.from ∷ []) c.in_ok-kids-2.kids c.in_ok-plain.field-0 (level c.args.items.now c.args.room ClassRest (c.args.at + 1)) (token_at c.args.items.now c.args.at).span.from refl (rw (c.in_ok-kids.ensures, c.empty_list.ensures, c.start_at-from.ensures) at c.in_ok-kids-2.ensures.gives) c.in_ok-plain.ensures

pub definitions::class-returns-in_err-kids-2-clause-gives : goal.definitions::class-returns-in_err-kids-2-clause-gives
definitions::class-returns-in_err-kids-2-clause-gives t c = passed_on reading.one reading.kids_alone c.from_residual-in_err-kids-2.result c.in_err-kids-2.field-0.0 _ _ c.from_residual-in_err-kids-2.ensures.1 (rw (c.in_ok-kids.ensures, c.empty_list.ensures, c.start_at-from.ensures) at c.in_err-kids-2.ensures.gives) (λ none. class_over c.args.items.now c.args.room c.args.at (grind (arith, c.if-room-eq0.false)) (sym c.if-not-is.ensures.test) ∙ over_lost c.args.items.now k.ClassDef c.args.at [] (empty_list (token_at c.args.items.now c.args.at).span.from ∷ []) (level c.args.items.now c.args.room ClassRest (c.args.at + 1)) (token_at c.args.items.now c.args.at).span.from none)

pub definitions::class_rest-returns-clause-gives : goal.definitions::class_rest-returns-clause-gives
definitions::class_rest-returns-clause-gives t c = class_rest_read c.args.items.now c.args.room c.args.from c.args.at c.in_ok-ident.field-0 c.args.kids (grind (arith, c.if-room-eq0.false)) (sym c.if-not-is_name.ensures.test) c.in_ok-ident.ensures c.in_ok-list.end c.in_ok-block.end c.in_ok-list.list c.in_ok-block.block _ _ _ c.in_ok-list.ensures.gives c.in_ok-block.ensures.gives c.in_ok-push.ensures.ok c.in_ok-push-2.ensures.ok c.in_ok-push-3.ensures.ok

pub definitions::def_rest-returns-clause-gives : goal.definitions::def_rest-returns-clause-gives
definitions::def_rest-returns-clause-gives t c = def_rest_read c.args.items.now c.args.room c.args.from c.args.at c.in_ok-ident.field-0 c.args.kids (grind (arith, c.if-room-eq0.false)) (sym c.if-not-is_name.ensures.test) c.in_ok-ident.ensures c.in_ok-list.end c.in_ok-returns.end c.in_ok-block.end c.in_ok-list.list c.in_ok-returns.returns c.in_ok-block.block _ _ _ _ c.in_ok-list.ensures.gives c.in_ok-returns.ensures.gives c.in_ok-block.ensures.gives c.in_ok-push.ensures.ok c.in_ok-push-2.ensures.ok c.in_ok-push-3.ensures.ok c.in_ok-push-4.ensures.ok

pub definitions::def_rest-returns-in_err-block-clause-gives : goal.definitions::def_rest-returns-in_err-block-clause-gives
definitions::def_rest-returns-in_err-block-clause-gives t c = passed_on reading.kids_alone reading.one c.from_residual-in_err-block.result c.in_err-block.field-0.0 _ _ c.from_residual-in_err-block.ensures.1 c.in_err-block.ensures.gives (λ none. def_rest_no_body c.args.items.now c.args.room c.args.from c.args.at c.in_ok-ident.field-0 c.args.kids (grind (arith, c.if-room-eq0.false)) (sym c.if-not-is_name.ensures.test) c.in_ok-ident.ensures c.in_ok-list.end c.in_ok-returns.end c.in_ok-list.list c.in_ok-returns.returns c.in_ok-list.ensures.gives c.in_ok-returns.ensures.gives none)

pub definitions::waited-returns-then-is-clause-gives : goal.definitions::waited-returns-then-is-clause-gives
definitions::waited-returns-then-is-clause-gives t c = waited_for c.args.items.now c.args.room c.args.at c.in_ok-kids.end c.in_ok-kids.kids c.in_ok-statement.field-0 (grind (arith, c.if-room-eq0.false)) (sym c.if-not-is.ensures.test) (sym c.if-is.ensures.test) c.in_ok-kids.ensures.gives (rw c.in_ok-text.ensures at c.in_ok-statement.ensures)

pub definitions::waited-returns-then-is-2-clause-gives : goal.definitions::waited-returns-then-is-2-clause-gives
definitions::waited-returns-then-is-2-clause-gives t c = waited_with c.args.items.now c.args.room c.args.at c.in_ok-kids-2.end c.in_ok-kids-2.kids c.in_ok-statement-2.field-0 (grind (arith, c.if-room-eq0.false)) (sym c.if-not-is.ensures.test) (sym c.if-is.ensures.test) (sym c.if-is-2.ensures.test) c.in_ok-kids-2.ensures.gives (rw c.in_ok-text.ensures at c.in_ok-statement-2.ensures)

pub definitions::waited-returns-clause-gives : goal.definitions::waited-returns-clause-gives
definitions::waited-returns-clause-gives t c = waited_over c.args.items.now c.args.room c.args.at (grind (arith, c.if-room-eq0.false)) (sym c.if-not-is.ensures.test) (sym c.if-is.ensures.test) (sym c.if-is-2.ensures.test) (sym c.if-not-is-2.ensures.test) ∙ over_read c.args.items.now k.FunctionDef c.args.at c.in_ok-kids-4.end (token_at c.args.items.now c.args.at).text (empty_list (token_at c.args.items.now c.args.at).span.from ∷ []) c.in_ok-kids-4.kids c.in_ok-statement-3.field-0 (level c.args.items.now c.args.room DefRest (c.args.at + 2)) (token_at c.args.items.now c.args.at).span.from refl (rw (c.in_ok-kids-3.ensures, c.empty_list.ensures, c.start_at-from.ensures) at c.in_ok-kids-4.ensures.gives) (rw c.in_ok-text.ensures at c.in_ok-statement-3.ensures)

pub definitions::decorated-returns-then-is-clause-gives : goal.definitions::decorated-returns-then-is-clause-gives
definitions::decorated-returns-then-is-clause-gives t c = decorated_async c.args.items.now c.args.room c.args.at c.in_ok-list.end c.in_ok-list.list (grind (arith, c.if-room-eq0.false)) c.in_ok-list.ensures.gives (sym c.if-is.ensures.test) (sym c.if-not-is.ensures.test) ∙ over_read c.args.items.now k.FunctionDef c.args.at c.in_ok-kids-2.end (token_at c.args.items.now c.in_ok-list.end).text (c.in_ok-list.list ∷ []) c.in_ok-kids-2.kids c.in_ok-statement.field-0 (level c.args.items.now c.args.room DefRest (c.in_ok-list.end + 2)) c.start_at-from.result c.start_at-from.ensures (rw c.in_ok-kids.ensures at c.in_ok-kids-2.ensures.gives) (rw c.in_ok-text.ensures at c.in_ok-statement.ensures)

pub definitions::decorated-returns-then-is-2-clause-gives : goal.definitions::decorated-returns-then-is-2-clause-gives
definitions::decorated-returns-then-is-2-clause-gives t c = decorated_def c.args.items.now c.args.room c.args.at c.in_ok-list.end c.in_ok-list.list (grind (arith, c.if-room-eq0.false)) c.in_ok-list.ensures.gives (sym c.if-is.ensures.test) (sym c.if-is-2.ensures.test) ∙ over_read c.args.items.now k.FunctionDef c.args.at c.in_ok-kids-3.end [] (c.in_ok-list.list ∷ []) c.in_ok-kids-3.kids c.in_ok-plain.field-0 (level c.args.items.now c.args.room DefRest (c.in_ok-list.end + 1)) c.start_at-from.result c.start_at-from.ensures (rw c.in_ok-kids.ensures at c.in_ok-kids-3.ensures.gives) c.in_ok-plain.ensures

pub definitions::decorated-returns-clause-gives : goal.definitions::decorated-returns-clause-gives
definitions::decorated-returns-clause-gives t c = decorated_class c.args.items.now c.args.room c.args.at c.in_ok-list.end c.in_ok-list.list (grind (arith, c.if-room-eq0.false)) c.in_ok-list.ensures.gives (sym c.if-is.ensures.test) (sym c.if-is-2.ensures.test) (sym c.if-not-is-2.ensures.test) ∙ over_read c.args.items.now k.ClassDef c.args.at c.in_ok-kids-4.end [] (c.in_ok-list.list ∷ []) c.in_ok-kids-4.kids c.in_ok-plain-2.field-0 (level c.args.items.now c.args.room ClassRest (c.in_ok-list.end + 1)) c.start_at-from.result c.start_at-from.ensures (rw c.in_ok-kids.ensures at c.in_ok-kids-4.ensures.gives) c.in_ok-plain-2.ensures

pub definitions::decorated-returns-in_err-kids-2-clause-gives : goal.definitions::decorated-returns-in_err-kids-2-clause-gives
definitions::decorated-returns-in_err-kids-2-clause-gives t c = passed_on reading.one reading.kids_alone c.from_residual-in_err-kids-2.result c.in_err-kids-2.field-0.0 _ _ c.from_residual-in_err-kids-2.ensures.1 (rw c.in_ok-kids.ensures at c.in_err-kids-2.ensures.gives) (λ none. decorated_async c.args.items.now c.args.room c.args.at c.in_ok-list.end c.in_ok-list.list (grind (arith, c.if-room-eq0.false)) c.in_ok-list.ensures.gives (sym c.if-is.ensures.test) (sym c.if-not-is.ensures.test) ∙ over_lost c.args.items.now k.FunctionDef c.args.at (token_at c.args.items.now c.in_ok-list.end).text (c.in_ok-list.list ∷ []) (level c.args.items.now c.args.room DefRest (c.in_ok-list.end + 2)) c.start_at-from.result none)

pub definitions::decorated-returns-in_err-kids-3-clause-gives : goal.definitions::decorated-returns-in_err-kids-3-clause-gives
definitions::decorated-returns-in_err-kids-3-clause-gives t c = passed_on reading.one reading.kids_alone c.from_residual-in_err-kids-3.result c.in_err-kids-3.field-0.0 _ _ c.from_residual-in_err-kids-3.ensures.1 (rw c.in_ok-kids.ensures at c.in_err-kids-3.ensures.gives) (λ none. decorated_def c.args.items.now c.args.room c.args.at c.in_ok-list.end c.in_ok-list.list (grind (arith, c.if-room-eq0.false)) c.in_ok-list.ensures.gives (sym c.if-is.ensures.test) (sym c.if-is-2.ensures.test) ∙ over_lost c.args.items.now k.FunctionDef c.args.at [] (c.in_ok-list.list ∷ []) (level c.args.items.now c.args.room DefRest (c.in_ok-list.end + 1)) c.start_at-from.result none)

pub definitions::decorated-returns-in_err-kids-4-clause-gives : goal.definitions::decorated-returns-in_err-kids-4-clause-gives
definitions::decorated-returns-in_err-kids-4-clause-gives t c = passed_on reading.one reading.kids_alone c.from_residual-in_err-kids-4.result c.in_err-kids-4.field-0.0 _ _ c.from_residual-in_err-kids-4.ensures.1 (rw c.in_ok-kids.ensures at c.in_err-kids-4.ensures.gives) (λ none. decorated_class c.args.items.now c.args.room c.args.at c.in_ok-list.end c.in_ok-list.list (grind (arith, c.if-room-eq0.false)) c.in_ok-list.ensures.gives (sym c.if-is.ensures.test) (sym c.if-is-2.ensures.test) (sym c.if-not-is-2.ensures.test) ∙ over_lost c.args.items.now k.ClassDef c.args.at [] (c.in_ok-list.list ∷ []) (level c.args.items.now c.args.room ClassRest (c.in_ok-list.end + 1)) c.start_at-from.result none)

pub definitions::waited-returns-in_err-kids-4-clause-gives : goal.definitions::waited-returns-in_err-kids-4-clause-gives
definitions::waited-returns-in_err-kids-4-clause-gives t c = passed_on reading.one reading.kids_alone c.from_residual-in_err-kids-4.result c.in_err-kids-4.field-0.0 _ _ c.from_residual-in_err-kids-4.ensures.1 (rw (c.in_ok-kids-3.ensures, c.empty_list.ensures, c.start_at-from.ensures) at c.in_err-kids-4.ensures.gives) (λ none. waited_over c.args.items.now c.args.room c.args.at (grind (arith, c.if-room-eq0.false)) (sym c.if-not-is.ensures.test) (sym c.if-is.ensures.test) (sym c.if-is-2.ensures.test) (sym c.if-not-is-2.ensures.test) ∙ over_lost c.args.items.now k.FunctionDef c.args.at (token_at c.args.items.now c.args.at).text (empty_list (token_at c.args.items.now c.args.at).span.from ∷ []) (level c.args.items.now c.args.room DefRest (c.args.at + 2)) (token_at c.args.items.now c.args.at).span.from none)
