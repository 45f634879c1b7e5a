use Rattle.std.proofs.Common.{◌++◌, ◌≡◌, ◌+◌, ◌-◌, ◌∙◌, suc, length, map, sym, arith, true, [], ◌∷◌}
use Rattle.std.proofs.lemmas.Grind.{common_steps}
use Rattle.grammar.specs.Rule.{has}
use Rattle.grammar.proofs.Facts.{true_false}
use Rattle.c_expr.specs.declared.word.Word.TheVariants as w
use Rattle.c_expr.specs.Words.{class}
use Rattle.c_expr.specs.Build.{token_at}
use Rattle.c_expr.specs.reader.Reading.{operators, trails, item_starts}
use Rattle.c_expr.proofs.Climbs.{has_one, comma_on, ops_on, more_there}
use Rattle.c_expr.proofs.Pieces.{grafted_there, cast_read, cond_part_read, sub_read, call_read, attr_read, desigs_more, fields_more, items_more, word_there, body_there, pointer_there, array_read, function_read, designated_read}
use Rattle.c_expr.proofs.+reader.Goals as goal

pub operators::comma-loop-turn-preserved : goal.operators::comma-loop-turn-preserved
operators::comma-loop-turn-preserved t c = record {
  within = c.in_ok-right.ensures.within;
  turns = grind (arith, common_steps);
  rest =
      let less : suc (length c.args.tokens.now) - c.loop-turn.turn - 1 ≡ suc (length c.args.tokens.now) - (c.loop-turn.turn + 1) = omega arith in
      c.loop-turn.invariant.rest ∙ comma_on c.args.tokens.now c.args.room c.start_at-from.result c.loop-turn.part c.in_ok-right.right c.in_ok-part-2.part (suc (length c.args.tokens.now) - c.loop-turn.turn) _ c.loop-turn.end c.in_ok-right.next (grind arith) (has_one (class w.Comma) _ (sym c.if-not-is.ensures.test)) c.in_ok-right.ensures.gives c.in_ok-part-2.ensures less;
}

pub operators::level_operators-loop-turn-preserved : goal.operators::level_operators-loop-turn-preserved
operators::level_operators-loop-turn-preserved t c =
    let stands : has (map class (operators c.args.level)) (class (token_at c.args.tokens.now c.in_ok-right.next).word) ≡ true = rw c.operators-in-loop-turn.ensures.words at (sym c.if-not-is_among-2.ensures.test) in
    let less : suc (length c.args.tokens.now) - c.loop-turn.turn - 1 ≡ suc (length c.args.tokens.now) - (c.loop-turn.turn + 1) = omega arith in
    record {
      within = grind (arith, common_steps);
      stands = stands;
      turns = grind (arith, common_steps);
      rest =
          c.loop-turn.invariant.rest ∙ ops_on c.args.tokens.now c.args.room c.args.from c.loop-turn.part c.in_ok-right.right c.in_ok-part.part c.args.level (suc (length c.args.tokens.now) - c.loop-turn.turn) _ c.loop-turn.end c.in_ok-right.next (grind arith) c.loop-turn.invariant.stands c.in_ok-right.ensures.gives c.in_ok-part.ensures less
          ∙ more_there c.args.tokens.now c.args.room c.args.from c.in_ok-part.part c.args.level _ c.in_ok-right.next stands;
    }

pub operators::cast-returns-clause-gives : goal.operators::cast-returns-clause-gives
operators::cast-returns-clause-gives t c =
    cast_read c.args.tokens.now c.args.room c.args.at c.in_ok-target.close c.in_ok-kid.end c.in_ok-target.target c.in_ok-kid.kid c.in_ok-part.part (grind (arith, c.if-room-eq0.false)) (sym c.if-not-opens_cast.ensures.test) c.in_ok-target.ensures.gives (sym c.if-not-is.ensures.test) c.in_ok-kid.ensures.gives
    (grind (arith, c.in_ok-part.ensures, c.span_at-span.ensures, c.new.ensures))

pub operators::cond_part-returns-clause-gives : goal.operators::cond_part-returns-clause-gives
operators::cond_part-returns-clause-gives t c =
    grafted_there c.args.from c.args.first _ c.in_ok-part.part _ c.in_ok-other.end
    (cond_part_read c.args.tokens.now c.args.room c.args.at c.in_ok-then.colon c.in_ok-other.end c.in_ok-then.then c.in_ok-other.other (grind (arith, c.if-room-eq0.false)) (sym c.if-not-is.ensures.test) c.in_ok-then.ensures.gives (sym c.if-not-is-2.ensures.test) c.in_ok-other.ensures.gives)
    (grind (arith, c.in_ok-part.ensures, c.span_at-span.ensures, c.new-text.ensures))

pub primaries::suffix-returns-then-is-clause-gives : goal.primaries::suffix-returns-then-is-clause-gives
primaries::suffix-returns-then-is-clause-gives t c =
    grafted_there c.args.from c.args.first _ c.in_ok-part.part _ (c.in_ok-index.close + 1)
    (sub_read c.args.tokens.now c.args.room c.args.at c.in_ok-index.close c.in_ok-index.index (grind (arith, c.if-room-eq0.false)) (sym c.if-is.ensures.test) c.in_ok-index.ensures.gives (sym c.if-not-is.ensures.test))
    (grind (arith, c.in_ok-part.ensures, common_steps))

pub primaries::suffix-returns-then-is-2-clause-gives : goal.primaries::suffix-returns-then-is-2-clause-gives
primaries::suffix-returns-then-is-2-clause-gives t c =
    grafted_there c.args.from c.args.first _ c.in_ok-part-2.part _ (c.in_ok-args.close + 1)
    (call_read c.args.tokens.now c.args.room c.args.at c.in_ok-args.close c.in_ok-args.args (grind (arith, c.if-room-eq0.false)) (sym c.if-is.ensures.test) (sym c.if-is-2.ensures.test) c.in_ok-args.ensures.gives (sym c.if-not-is-2.ensures.test))
    (grind (arith, c.in_ok-part-2.ensures, common_steps))

pub primaries::suffix-returns-then-is_among-clause-gives : goal.primaries::suffix-returns-then-is_among-clause-gives
primaries::suffix-returns-then-is_among-clause-gives t c =
    grafted_there c.args.from c.args.first _ c.in_ok-part-3.part _ (c.args.at + 2)
    (attr_read c.args.tokens.now c.args.room c.args.at (grind (arith, c.if-room-eq0.false)) (sym c.if-is.ensures.test) (sym c.if-is-2.ensures.test) (sym c.if-is_among.ensures.test) (sym c.if-not-is_among.ensures.test))
    (grind (arith, c.in_ok-part-3.ensures, c.in_ok-name.ensures, common_steps))

pub declarators::declarator-returns-clause-gives : goal.declarators::declarator-returns-clause-gives
declarators::declarator-returns-clause-gives t c =
    pointer_there c.args.tokens.now c.args.room c.args.naming c.args.at c.in_ok-text.end c.in_ok-kid.end _ _ c.or_absent.result c.in_ok-part.part (grind (arith, c.if-room-eq0.false)) (sym c.if-not-is.ensures.test) c.in_ok-text.ensures.gives c.in_ok-kid.ensures.gives (rw c.span_at-span.ensures at c.or_absent.ensures)
    (grind (arith, c.in_ok-part.ensures, common_steps))

pub declarators::bracket-returns-then-is-clause-gives : goal.declarators::bracket-returns-then-is-clause-gives
declarators::bracket-returns-then-is-clause-gives t c =
    grafted_there c.args.from c.args.first _ c.in_ok-part.part _ (c.in_ok-size.close + 1)
    (array_read c.args.tokens.now c.args.room c.args.at c.in_ok-size.close _ _ (grind (arith, c.if-room-eq0.false)) (sym c.if-is.ensures.test) c.in_ok-size.ensures.gives (sym c.if-not-is.ensures.test) (rw c.span_at-span.ensures at c.or_absent-size.ensures))
    (grind (arith, c.in_ok-part.ensures, common_steps))

pub declarators::bracket-returns-clause-gives : goal.declarators::bracket-returns-clause-gives
declarators::bracket-returns-clause-gives t c =
    grafted_there c.args.from c.args.first _ c.in_ok-part-2.part _ (c.in_ok-params.close + 1)
    (function_read c.args.tokens.now c.args.room c.args.at c.in_ok-params.close c.in_ok-params.params (grind (arith, c.if-room-eq0.false)) (sym c.if-is.ensures.test) (sym c.if-not-is-2.ensures.test) c.in_ok-params.ensures.gives (sym c.if-not-is-3.ensures.test))
    (grind (arith, c.in_ok-part-2.ensures, common_steps))

pub initializers::designators-loop-turn-preserved : goal.initializers::designators-loop-turn-preserved
initializers::designators-loop-turn-preserved t c = record {
  within = c.in_ok-part.ensures.within;
  turns = grind (arith, common_steps);
  rest =
      let less : suc (length c.args.tokens.now) - c.loop-turn.turn - 1 ≡ suc (length c.args.tokens.now) - (c.loop-turn.turn + 1) = omega arith in
      let more : c.push.new.self.items ≡ c.loop-turn.parts.items ++ c.in_ok-part.part ∷ [] = c.in_ok-push.ensures.items in
      c.loop-turn.invariant.rest ∙ desigs_more c.args.tokens.now c.args.room c.loop-turn.parts.items c.push.new.self.items c.in_ok-part.part (suc (length c.args.tokens.now) - c.loop-turn.turn) _ c.loop-turn.end c.in_ok-part.next (grind (arith, common_steps)) (sym c.if-not-is_among.ensures.test) c.in_ok-part.ensures.gives more less;
}

pub initializers::initializer-returns-clause-gives : goal.initializers::initializer-returns-clause-gives
initializers::initializer-returns-clause-gives t c =
    designated_read c.args.tokens.now c.args.room c.args.at c.in_ok-parts.middle c.in_ok-item.end c.in_ok-parts.parts.items c.in_ok-item.item c.in_ok-part.part (grind (arith, c.if-room-eq0.false)) (sym c.if-not-is_among.ensures.test) c.in_ok-parts.ensures.gives (sym c.if-not-is.ensures.test) c.in_ok-item.ensures.gives
    (grind (arith, common_steps, c.in_ok-part.ensures, c.in_ok-place.ensures))

pub lists::items-loop-turn-preserved : goal.lists::items-loop-turn-preserved
lists::items-loop-turn-preserved t c = record {
  within = c.in_ok-part.ensures.within;
  turns = grind (arith, common_steps);
  rest =
      let less : suc (length c.args.tokens.now) - c.loop-turn.turn - 1 ≡ suc (length c.args.tokens.now) - (c.loop-turn.turn + 1) = omega arith in
      let more : c.push.new.self.items ≡ c.loop-turn.parts.items ++ c.in_ok-part.part ∷ [] = c.in_ok-push.ensures.items in
      let begins : trails c.args.listed ≡ true → has (map class (item_starts c.args.listed)) (class (token_at c.args.tokens.now (c.loop-turn.end + 1)).word) ≡ true = elim c.if-trails.branch [
        | goal.lists::items-then-trails+else-not-is_among-2 w ↦ λ e. rw w.starts-then-trails.ensures.words at (sym w.if-not-is_among-2.ensures.test)
        | goal.lists::items-else-trails w ↦ λ e. true_false (trails c.args.listed) e (sym w.if-trails.ensures)
      ] in
      c.loop-turn.invariant.rest ∙ items_more c.args.tokens.now c.args.room c.args.listed c.loop-turn.parts.items c.push.new.self.items c.in_ok-part.part (suc (length c.args.tokens.now) - c.loop-turn.turn) _ c.loop-turn.end c.in_ok-part.next (grind (arith, common_steps)) (sym c.if-not-is.ensures.test) begins c.in_ok-part.ensures.gives more less;
}

pub members::fields-loop-turn-preserved : goal.members::fields-loop-turn-preserved
members::fields-loop-turn-preserved t c = record {
  within = c.in_ok-part.ensures.within;
  turns = grind (arith, common_steps);
  rest =
      let less : suc (length c.args.tokens.now) - c.loop-turn.turn - 1 ≡ suc (length c.args.tokens.now) - (c.loop-turn.turn + 1) = omega arith in
      let more : c.push.new.self.items ≡ c.loop-turn.parts.items ++ c.in_ok-part.part ∷ [] = c.in_ok-push.ensures.items in
      c.loop-turn.invariant.rest ∙ fields_more c.args.tokens.now c.args.room c.loop-turn.parts.items c.push.new.self.items c.in_ok-part.part (suc (length c.args.tokens.now) - c.loop-turn.turn) _ c.loop-turn.end c.in_ok-part.next (grind (arith, common_steps)) (sym c.if-not-is_among.ensures.test) c.in_ok-part.ensures.gives more less;
}

pub types::maybe_body-returns-clause-gives : goal.types::maybe_body-returns-clause-gives
types::maybe_body-returns-clause-gives t c = body_there c.args.tokens.now c.args.room c.args.at c.in_ok-inner.end (c.args.spelt.text, c.args.spelt.kids.items) c.in_ok-inner.inner c.push.new.self.items (sym c.if-not-is.ensures.test) c.in_ok-inner.ensures.gives c.in_ok-inner.ensures.no_spelling c.in_ok-push.ensures.items

pub types::word_or_group-returns-then-is_among-clause-gives : goal.types::word_or_group-returns-then-is_among-clause-gives
types::word_or_group-returns-then-is_among-clause-gives t c = word_there c.args.tokens.now c.args.room (map class c.args.words.now) c.args.at (c.args.spelt.text, c.args.spelt.kids.items) c.in_ok-spell.field-0.text c.in_ok-spell.field-0.kids.items (sym c.if-is_among.ensures.test) c.in_ok-spell.ensures.text c.in_ok-spell.ensures.kids
