use Rattle.std.proofs.Common.{suc, ◌-◌, ◌∙◌, ap, arith, sym, length}
use Rattle.meta_filter.specs.declared.part.Part.{Part}
use Rattle.meta_filter.proofs.Turns.{left_more, left_over, chain_more, chain_begun, chain_depth}
use Rattle.meta_filter.proofs.reader.+reader.Goals as goal
use Rattle.meta_filter.proofs.reader.+reader.Goals.{from_left-else-loop-turn-test, from_left-then-loop-turn-test+else-not-is_operator+in_ok-right+in_ok-left-2+else-turn-turn-end}

pub from_left-loop-turn-preserved : goal.from_left-loop-turn-preserved
from_left-loop-turn-preserved t c =
    let is = rw c.word_at.ensures at c.in_ok-left-2.ensures in
    let deep = ap (λ (p : Part). p.depth) is in
    record {
      within = c.in_ok-right.ensures.within;
      shallow = omega (arith, deep, c.loop-turn.invariant.shallow, c.in_ok-right.ensures.shallow);
      turns = omega (arith, c.loop-turn-test.true);
      rest = c.loop-turn.invariant.rest ∙ left_more c.args.tokens.now c.args.room c.args.layer (suc (length c.args.tokens.now) - c.loop-turn.turn) c.loop-turn.end c.in_ok-right.next c.loop-turn.left c.in_ok-right.right (omega (arith, c.loop-turn-test.true)) (sym c.if-not-is_operator.ensures.test) c.in_ok-right.ensures.gives _ c.in_ok-left-2.left (omega (arith, c.loop-turn-test.true)) is;
    }

pub from_left-returns-clause-gives : goal.from_left-returns-clause-gives
from_left-returns-clause-gives t c = elim c.loop-turn-test.branch [
  | from_left-else-loop-turn-test w ↦ c.loop-turn.invariant.rest ∙ left_over c.args.tokens.now c.args.room c.args.layer (suc (length c.args.tokens.now) - c.loop-turn.turn) c.loop-turn.end c.loop-turn.left (omega (arith, w.loop-turn-test.false, c.loop-turn.invariant.turns))
  | from_left-then-loop-turn-test+else-not-is_operator+in_ok-right+in_ok-left-2+else-turn-turn-end w ↦ c.loop-turn.invariant.rest
      ∙ left_more c.args.tokens.now c.args.room c.args.layer (suc (length c.args.tokens.now) - c.loop-turn.turn) c.loop-turn.end w.in_ok-right.next c.loop-turn.left w.in_ok-right.right (omega (arith, w.loop-turn-test.true)) (sym w.if-not-is_operator.ensures.test) w.in_ok-right.ensures.gives _ w.in_ok-left-2.left (omega arith) (rw w.word_at.ensures at w.in_ok-left-2.ensures)
      ∙ left_over c.args.tokens.now c.args.room c.args.layer (suc (length c.args.tokens.now) - c.loop-turn.turn - 1) w.in_ok-right.next w.in_ok-left-2.left (grind arith)
]

pub chain-loop-turn-init : goal.chain-loop-turn-init
chain-loop-turn-init t c = record {
  within = c.in_ok-first.ensures.within;
  shallow = c.in_ok-first.ensures.shallow;
  begun = λ e. sym c.if-not-is_compare.ensures.test;
  deeper = λ h. absurd (omega (arith, h));
  turns = omega arith;
  rest = chain_begun c.args.tokens.now c.args.room (suc (length c.args.tokens.now) - 0) c.args.at c.in_ok-first.end c.in_ok-first.first (grind (arith, c.if-room-eq0.false)) (omega arith) c.in_ok-first.ensures.gives (sym c.if-not-is_compare.ensures.test) c.in_ok-links.links c.in_ok-links.ensures (omega arith);
}

pub chain-returns-then-not-is_compare-2-clause-shallow : goal.chain-returns-then-not-is_compare-2-clause-shallow
chain-returns-then-not-is_compare-2-clause-shallow t c =
    let deep = ap (λ (p : Part). p.depth) c.chained.ensures in
    let i = c.loop-turn.invariant in
    omega (arith, deep, chain_depth c.loop-turn.turn c.args.at c.loop-turn.depth c.loop-turn.end _ i.begun i.deeper c.if-not-is_compare-2.ensures.test)

pub chain-loop-turn-preserved : goal.chain-loop-turn-preserved
chain-loop-turn-preserved t c =
    let i = c.loop-turn.invariant in
    record {
      within = c.in_ok-part.ensures.within;
      shallow = omega (arith, c.max-depth.ensures, i.shallow, c.in_ok-part.ensures.shallow);
      begun = λ e. absurd (omega (arith, e));
      deeper = λ h. omega (arith, c.max-depth.ensures, i.shallow, c.in_ok-part.ensures.shallow);
      turns = omega (arith, c.loop-turn-test.true);
      rest = i.rest ∙ chain_more c.args.tokens.now c.args.room (suc (length c.args.tokens.now) - c.loop-turn.turn) c.loop-turn.end c.in_ok-part.next c.loop-turn.depth c.loop-turn.links c.in_ok-part.part (omega (arith, c.loop-turn-test.true)) (sym c.if-not-is_compare-2.ensures.test) c.in_ok-part.ensures.gives _ c.max-depth.result c.in_ok-links-2.links (omega (arith, c.loop-turn-test.true)) c.max-depth.ensures (rw c.word_at.ensures at c.in_ok-links-2.ensures);
    }
