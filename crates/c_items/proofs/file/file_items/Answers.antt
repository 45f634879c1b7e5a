use Rattle.std.proofs.Common.{◌≡◌, ◌+◌, ◌-◌, ◌∙◌, ◌++◌, suc, length, sym, arith, [], ◌∷◌}
use Rattle.std.proofs.lemmas.Grind.{common_steps}
use Rattle.c_items.proofs.Rounds.{file_more}
use Rattle.c_items.proofs.file.file_items.Goals as goal

pub loop-turn-preserved : goal.loop-turn-preserved
loop-turn-preserved c = record {
  within = c.in_ok-part.ensures.within;
  turns = grind (arith, common_steps);
  rest =
      let less : suc (length c.args.tokens.now) - c.loop-turn.turn - 1 ≡ suc (length c.args.tokens.now) - (c.loop-turn.turn + 1) = omega arith in
      let more : c.push.new.self.items ≡ c.loop-turn.parts.items ++ c.in_ok-part.part ∷ [] = c.in_ok-push.ensures.items in
      c.loop-turn.invariant.rest ∙ file_more c.args.tokens.now c.args.room c.loop-turn.parts.items c.push.new.self.items c.in_ok-part.part (suc (length c.args.tokens.now) - c.loop-turn.turn) _ c.loop-turn.end c.in_ok-part.next (grind (arith, common_steps)) (sym c.if-not-starts_file_item.ensures) c.in_ok-part.ensures.gives more less;
}
