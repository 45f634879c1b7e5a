use Rattle.std.proofs.Common.{◌∙◌, ◌-◌, ◌+◌, ◌≡◌, ◌++◌, [], ◌∷◌, length, sym, arith}
use Rattle.std.proofs.lemmas.Grind.{common_steps}
use Rattle.c_expr.specs.Table.{Own}
use Rattle.c_expr.specs.Build.{leaf}
use Rattle.c_expr.proofs.Steps.{strings_first, strings_more}
use Rattle.c_expr.proofs.primaries.strings.Goals as goal

pub loop-turn-init : goal.loop-turn-init
loop-turn-init c = record {
  within = grind (arith, common_steps);
  turns = omega arith;
  several = grind (arith, common_steps);
  rest =
      let two : c.in_ok-parts.parts.items ≡ leaf c.args.tokens.now Own c.args.at ∷ leaf c.args.tokens.now Own (c.args.at + 1) ∷ [] = grind (arith, common_steps, c.in_ok-parts.ensures.items, c.in_ok-first.ensures, c.in_ok-leaf.ensures) in
      strings_first c.args.tokens.now c.args.room c.args.at c.in_ok-parts.parts.items (grind arith) (sym c.if-not-is_among.ensures.test) (sym c.if-not-is_among-2.ensures.test) two;
}

pub loop-turn-preserved : goal.loop-turn-preserved
loop-turn-preserved c = record {
  within = grind (arith, common_steps);
  turns = grind (arith, common_steps);
  several = grind (arith, common_steps);
  rest =
      let less : length c.args.tokens.now - c.loop-turn.turn - 1 ≡ length c.args.tokens.now - (c.loop-turn.turn + 1) = omega arith in
      let more : c.push.new.self.items ≡ c.loop-turn.parts.items ++ leaf c.args.tokens.now Own c.loop-turn.end ∷ [] = grind (arith, common_steps, c.in_ok-push.ensures.items, c.in_ok-leaf-2.ensures) in
      c.loop-turn.invariant.rest ∙ strings_more c.args.tokens.now c.args.room c.args.at c.loop-turn.parts.items c.push.new.self.items (length c.args.tokens.now - c.loop-turn.turn) _ c.loop-turn.end (grind (arith, common_steps)) (sym c.if-not-is_among-3.ensures.test) more less;
}
