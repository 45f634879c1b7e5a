use Rattle.std.proofs.Common.{◌≡◌, ◌+◌, ◌-◌, ◌∙◌, ◌++◌, suc, length, sym, arith, [], ◌∷◌}
use Rattle.std.proofs.lemmas.Grind.{common_steps}
use Rattle.c_items.proofs.Rounds.{vars_more}
use Rattle.c_items.proofs.declarations.more_variables.Goals as goal

pub loop-turn-preserved : goal.loop-turn-preserved
loop-turn-preserved c = record {
  within = c.in_ok-var.ensures.within;
  turns = grind (arith, common_steps);
  rest =
      let less : suc (length c.args.tokens.now) - c.loop-turn.turn - 1 ≡ suc (length c.args.tokens.now) - (c.loop-turn.turn + 1) = omega arith in
      let more : c.push.new.self.items ≡ c.loop-turn.vars.items ++ c.in_ok-var.var ∷ [] = c.in_ok-push.ensures.items in
      c.loop-turn.invariant.rest ∙ vars_more c.args.tokens.now c.args.room c.loop-turn.vars.items c.push.new.self.items c.in_ok-var.var (suc (length c.args.tokens.now) - c.loop-turn.turn) _ c.loop-turn.end c.in_ok-var.next (grind (arith, common_steps)) (sym c.if-not-is.ensures.test) c.in_ok-var.ensures.gives more less;
}
