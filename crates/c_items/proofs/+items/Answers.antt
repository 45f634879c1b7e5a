use Rattle.std.proofs.Common.{◌≡◌, ◌+◌, ◌-◌, ◌∙◌, ◌++◌, suc, length, sym, arith, [], ◌∷◌}
use Rattle.std.proofs.lemmas.Grind.{common_steps}
use Rattle.c_items.proofs.Rounds.{items_more, labelled_more}
use Rattle.c_items.proofs.Nested.{if_read, while_read, do_read}
use Rattle.c_items.proofs.+items.Goals as goal

pub blocks::items-loop-turn-preserved : goal.blocks::items-loop-turn-preserved
blocks::items-loop-turn-preserved t c = record {
  within = c.in_ok-part.ensures.within;
  turns = grind (arith, common_steps);
  rest =
      let less : suc (length c.args.tokens.now) - c.loop-turn.turn - 1 ≡ suc (length c.args.tokens.now) - (c.loop-turn.turn + 1) = omega arith in
      let more : c.push.new.self.items ≡ c.loop-turn.parts.items ++ c.in_ok-part.part ∷ [] = c.in_ok-push.ensures.items in
      c.loop-turn.invariant.rest ∙ items_more c.args.tokens.now c.args.room c.loop-turn.parts.items c.push.new.self.items c.in_ok-part.part (suc (length c.args.tokens.now) - c.loop-turn.turn) _ c.loop-turn.end c.in_ok-part.next (grind (arith, common_steps)) (sym c.if-not-starts_item.ensures) c.in_ok-part.ensures.gives more less;
}

pub blocks::labelled-loop-turn-preserved : goal.blocks::labelled-loop-turn-preserved
blocks::labelled-loop-turn-preserved t c = record {
  within = c.in_ok-part-2.ensures.within;
  turns = grind (arith, common_steps);
  rest =
      let less : suc (length c.args.tokens.now) - c.loop-turn.turn - 1 ≡ suc (length c.args.tokens.now) - (c.loop-turn.turn + 1) = omega arith in
      let more : c.push-in-loop-turn.new.self.items ≡ c.loop-turn.parts.items ++ c.in_ok-part-2.part ∷ [] = c.in_ok-push-2.ensures.items in
      c.loop-turn.invariant.rest ∙ labelled_more c.args.tokens.now c.args.room c.loop-turn.parts.items c.push-in-loop-turn.new.self.items c.in_ok-part-2.part (suc (length c.args.tokens.now) - c.loop-turn.turn) _ c.loop-turn.end c.in_ok-part-2.next (grind (arith, common_steps)) (sym c.if-not-marks.ensures) c.in_ok-part-2.ensures.gives more less;
}

pub loops::if_statement-returns-clause-gives : goal.loops::if_statement-returns-clause-gives
loops::if_statement-returns-clause-gives t c =
    if_read c.args.tokens.now c.args.room c.args.at c.in_ok-test.end c.in_ok-then.end c.in_ok-other.end c.in_ok-test.test c.in_ok-then.then c.or_absent-other.result c.in_ok-node.field-0 _ (grind (arith, c.if-room-eq0.false)) (sym c.if-not-is.ensures.test) c.in_ok-test.ensures.gives c.in_ok-then.ensures.gives c.in_ok-other.ensures.gives (rw c.start_at.ensures at c.or_absent-other.ensures)
    (rw c.in_ok-parts.ensures.items at c.in_ok-node.ensures)

pub loops::while_loop-returns-clause-gives : goal.loops::while_loop-returns-clause-gives
loops::while_loop-returns-clause-gives t c =
    while_read c.args.tokens.now c.args.room c.args.at c.in_ok-test.end c.in_ok-body.end c.in_ok-test.test c.in_ok-body.body c.in_ok-node.field-0 (grind (arith, c.if-room-eq0.false)) (sym c.if-not-is.ensures.test) c.in_ok-test.ensures.gives c.in_ok-body.ensures.gives
    (rw (c.in_ok-parts.ensures.items, c.absent-other.ensures, c.start_at.ensures) at c.in_ok-node.ensures)

pub loops::do_loop-returns-clause-gives : goal.loops::do_loop-returns-clause-gives
loops::do_loop-returns-clause-gives t c =
    do_read c.args.tokens.now c.args.room c.args.at c.in_ok-body.end c.in_ok-test.close c.in_ok-body.body c.in_ok-test.test c.in_ok-part.part (grind (arith, c.if-room-eq0.false)) (sym c.if-not-is.ensures.test) c.in_ok-body.ensures.gives (sym c.if-not-is-2.ensures.test) c.in_ok-test.ensures.gives (sym c.if-not-is-3.ensures.test) c.in_ok-part.ensures
