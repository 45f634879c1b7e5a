use Rattle.std.proofs.Common.{arith, sym, zero, suc, length, ◌-◌, ◌++◌, ◌∷◌, [], refl, ◌∙◌, append_assoc}
use Rattle.py_expr.proofs.Rounds.{further_more, comprehension_more, dotted_more, pairs_more, pairs_over, gives_along, braces_entry, entry_assigned, entry_item, entry_pair}
use Rattle.py_expr.proofs.Turns.{test_read, power_read, binary_more, binary_over, binary_last, cmp_more, prim_more}
use Rattle.py_expr.proofs.read.+reader.Goals as goal
use Rattle.py_expr.proofs.read.+reader.Goals.{operators::chained-else-loop-turn-test, operators::chained-then-loop-turn-test+else-not-is_operator-2+in_ok-text+in_ok-right+in_ok-right-2+in_ok-node+else-turn-turn-end}

pub operators::test-returns-clause-gives : goal.operators::test-returns-clause-gives
operators::test-returns-clause-gives t c = test_read c.args.items.now c.args.room c.args.at c.in_ok-first.end c.in_ok-condition.end c.in_ok-last.end c.in_ok-first.first c.in_ok-condition.condition c.in_ok-last.last _ (omega arith) (grind arith) c.in_ok-first.ensures.gives (grind arith) c.in_ok-condition.ensures.gives (grind arith) c.in_ok-last.ensures.gives (grind arith)

pub operators::power-returns-clause-gives : goal.operators::power-returns-clause-gives
operators::power-returns-clause-gives t c = power_read c.args.items.now c.args.room c.args.at c.in_ok-first.end c.in_ok-right.end c.spine-far.result c.in_ok-first.first c.in_ok-right.right _ (omega arith) c.in_ok-first.ensures.gives (grind arith) c.in_ok-right.ensures.gives c.spine-far.ensures.value (grind arith)

pub operators::chained-loop-turn-preserved : goal.operators::chained-loop-turn-preserved
operators::chained-loop-turn-preserved t c = record {
  within = grind arith;
  turns = omega arith;
  rest = c.loop-turn.invariant.rest ∙ binary_more _ _ _ _ _ _ _ _ _ _ _ c.in_ok-right-2.right _ (omega arith) (omega arith) (grind arith) c.in_ok-right-2.ensures.gives (grind arith) (grind arith);
}

pub operators::chained-returns-clause-gives : goal.operators::chained-returns-clause-gives
operators::chained-returns-clause-gives t c = elim c.loop-turn-test.branch [
  | operators::chained-else-loop-turn-test w ↦ c.loop-turn.invariant.rest ∙ binary_over _ _ _ _ _ _ _ _ (omega arith)
  | operators::chained-then-loop-turn-test+else-not-is_operator-2+in_ok-text+in_ok-right+in_ok-right-2+in_ok-node+else-turn-turn-end w ↦ c.loop-turn.invariant.rest ∙ binary_last _ _ _ _ _ _ _ _ _ w.in_ok-right-2.right (omega arith) (omega arith) (grind arith) w.in_ok-right-2.ensures.gives
]

pub operators::cmp-loop-turn-preserved : goal.operators::cmp-loop-turn-preserved
operators::cmp-loop-turn-preserved t c = record {
  within = grind arith;
  turns = omega arith;
  rest = c.loop-turn.invariant.rest ∙ cmp_more _ _ _ _ _ _ _ _ _ _ _ _ _ _ (omega arith) (omega arith) (grind arith) c.in_ok-more.ensures.gives c.in_ok-kid.ensures.gives (grind (arith, append_assoc)) (grind arith);
}

pub primaries::prim-loop-turn-preserved : goal.primaries::prim-loop-turn-preserved
primaries::prim-loop-turn-preserved t c = record {
  within = grind arith;
  turns = omega arith;
  rest = c.loop-turn.invariant.rest ∙ prim_more _ _ _ _ _ _ _ _ _ _ _ _ (omega arith) (omega arith) (grind arith) c.in_ok-tail.ensures.gives (grind arith) (grind arith);
}

pub lists::further-loop-turn-preserved : goal.lists::further-loop-turn-preserved
lists::further-loop-turn-preserved t c = record {
  within = c.in_ok-kid.ensures.within;
  turns = omega arith;
  rest = further_more c.args.items.now c.args.room c.args.place _ _ c.loop-turn.end c.in_ok-kid.next _ c.loop-turn.kids _ c.in_ok-kid.kid c.loop-turn.invariant.rest (omega arith) (omega arith) (sym c.if-not-is_comma.ensures.test) (sym c.if-not-starts_item-2.ensures.test) c.in_ok-kid.ensures.gives c.in_ok-push-2.ensures.ok;
}

pub displays::comprehension-loop-turn-preserved : goal.displays::comprehension-loop-turn-preserved
displays::comprehension-loop-turn-preserved t c = record {
  within = c.in_ok-kid.ensures.within;
  turns = omega arith;
  rest = comprehension_more c.args.items.now c.args.room _ _ c.loop-turn.end c.in_ok-kid.next _ c.loop-turn.kids _ c.in_ok-kid.kid c.loop-turn.invariant.rest (omega arith) (omega arith) (sym c.if-not-starts_clause.ensures.test) c.in_ok-kid.ensures.gives c.in_ok-push.ensures.ok;
}

pub displays::dotted-loop-turn-preserved : goal.displays::dotted-loop-turn-preserved
displays::dotted-loop-turn-preserved t c = record {
  within = omega (arith, c.if-not-is_dots-2.ensures.within refl);
  turns = omega arith;
  rest = dotted_more c.args.items.now c.args.room _ _ c.loop-turn.end _ c.loop-turn.kids _ c.in_ok-leaf-2.field-0 (grind (arith, c.if-room-eq0.false)) c.loop-turn.invariant.rest (omega arith) (omega arith) (sym c.if-is.ensures.test) (sym c.if-not-is_dots-2.ensures.test) c.in_ok-leaf-2.ensures c.in_ok-push.ensures.ok;
}

pub displays::pairs-loop-turn-preserved : goal.displays::pairs-loop-turn-preserved
displays::pairs-loop-turn-preserved t c = record {
  within = c.in_ok-kid.ensures.within;
  turns = omega arith;
  rest = pairs_more c.args.items.now c.args.room _ _ c.loop-turn.end c.in_ok-kid.next c.is-dots.result _ c.loop-turn.kids _ c.in_ok-kid.kid c.loop-turn.invariant.rest (omega arith) (omega arith) c.is-dots.ensures.test
      (elim c.if-not-dots-2.branch [ goal.displays::pairs-then-not-dots-2+else-not-is+else-not-starts_pair-2 w ↦ λ h. sym w.if-not-is.ensures.test | goal.displays::pairs-else-not-dots-2 w ↦ λ h. absurd (cc) ])
      (elim c.if-not-dots-2.branch [ goal.displays::pairs-then-not-dots-2+else-not-is+else-not-starts_pair-2 w ↦ λ h. sym w.if-not-starts_pair-2.ensures.test | goal.displays::pairs-else-not-dots-2 w ↦ λ h. absurd (cc) ])
      c.in_ok-kid.ensures.gives c.in_ok-push-2.ensures.ok;
}

pub displays::pairs-returns-clause-gives : goal.displays::pairs-returns-clause-gives
displays::pairs-returns-clause-gives t c = elim c.loop-turn-test.branch [
  | goal.displays::pairs-else-loop-turn-test w ↦ pairs_over c.args.items.now c.args.room (suc (length c.args.items.now) - c.loop-turn.turn) c.loop-turn.end _ c.loop-turn.kids c.loop-turn.invariant.rest (omega arith)
  | goal.displays::pairs-then-loop-turn-test+in_ok-kid+in_ok-push-2+else-turn-turn-end w ↦ pairs_over c.args.items.now c.args.room zero w.in_ok-kid.next _ (c.loop-turn.kids ++ w.in_ok-kid.kid ∷ [])
      (pairs_more c.args.items.now c.args.room (suc (length c.args.items.now) - c.loop-turn.turn) zero c.loop-turn.end w.in_ok-kid.next w.is-dots.result _ c.loop-turn.kids (c.loop-turn.kids ++ w.in_ok-kid.kid ∷ []) w.in_ok-kid.kid c.loop-turn.invariant.rest (omega arith) (omega arith) w.is-dots.ensures.test
      (elim w.if-not-dots-2.branch [ goal.displays::pairs-then-not-dots-2+else-not-is+else-not-starts_pair-2 v ↦ λ h. sym v.if-not-is.ensures.test | goal.displays::pairs-else-not-dots-2 v ↦ λ h. absurd (cc) ])
      (elim w.if-not-dots-2.branch [ goal.displays::pairs-then-not-dots-2+else-not-is+else-not-starts_pair-2 v ↦ λ h. sym v.if-not-starts_pair-2.ensures.test | goal.displays::pairs-else-not-dots-2 v ↦ λ h. absurd (cc) ])
      w.in_ok-kid.ensures.gives refl)
      refl
]

pub displays::braces-returns-then-is-clause-gives : goal.displays::braces-returns-then-is-clause-gives
displays::braces-returns-then-is-clause-gives t c = gives_along c.closed.result _ _ (braces_entry c.args.items.now c.args.room c.args.at c.in_ok-found.close c.start_at-from.result c.in_ok-found.found (grind (arith, c.if-room-eq0.false)) c.start_at-from.ensures (sym c.if-is.ensures.test) (sym c.if-not-starts_entry.ensures.test) c.in_ok-found.ensures.gives) c.closed.ensures.gives

pub displays::entry-returns-then-is_assigned-clause-gives : goal.displays::entry-returns-then-is_assigned-clause-gives
displays::entry-returns-then-is_assigned-clause-gives t c = entry_assigned c.args.items.now c.args.room c.args.first c.args.at c.in_ok-node-3.end c.in_ok-after-3.end c.in_ok-node-3.node c.in_ok-after-3.after c.in_ok-displayed-3.field-0 (grind (arith, c.if-room-eq0.false)) (sym c.if-is.ensures.test) (sym c.if-is-2.ensures.test) (sym c.if-is_assigned.ensures.test) c.in_ok-node-3.ensures.gives (rw c.set_place.ensures at c.in_ok-after-3.ensures.gives) c.in_ok-displayed-3.ensures

pub displays::entry-returns-then-not-is-clause-gives : goal.displays::entry-returns-then-not-is-clause-gives
displays::entry-returns-then-not-is-clause-gives t c = entry_item c.args.items.now c.args.room c.args.first c.args.at c.in_ok-node-4.end c.in_ok-after-4.end c.in_ok-node-4.node c.in_ok-after-4.after c.in_ok-displayed-4.field-0 (grind (arith, c.if-room-eq0.false)) (sym c.if-is.ensures.test) (sym c.if-is-2.ensures.test) (sym c.if-is_assigned.ensures.test) c.in_ok-node-4.ensures.gives (sym c.if-not-is.ensures.test) (rw c.set_place-then-not-is.ensures at c.in_ok-after-4.ensures.gives) c.in_ok-displayed-4.ensures

pub displays::entry-returns-clause-gives : goal.displays::entry-returns-clause-gives
displays::entry-returns-clause-gives t c = entry_pair c.args.items.now c.args.room c.args.first c.args.at c.in_ok-node-4.end c.in_ok-value.end c.in_ok-after-5.end c.in_ok-node-4.node c.in_ok-value.value c.over-pair.result c.in_ok-after-5.after c.in_ok-displayed-5.field-0 (grind (arith, c.if-room-eq0.false)) (sym c.if-is.ensures.test) (sym c.if-is-2.ensures.test) (sym c.if-is_assigned.ensures.test) c.in_ok-node-4.ensures.gives (sym c.if-not-is.ensures.test) c.in_ok-value.ensures.gives (rw (c.over-pair.ensures, c.start_at-from.ensures, c.end_before.ensures, c.in_ok-kids.ensures) refl) c.in_ok-after-5.ensures.gives c.in_ok-displayed-5.ensures
