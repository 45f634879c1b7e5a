use Rattle.std.proofs.Common.{◌≡◌, ◌-◌, ◌+◌, ◌∙◌, ◌<◌, refl, sym, arith}
use Rattle.std.proofs.lemmas.Grind.{common_steps}
use Rattle.c_expr.specs.Build.{source}
use Rattle.c_items.specs.Settling.{most, defines, curly_behind}
use Rattle.c_items.proofs.Curlies.{begun, went, stopped, opened, closed, inside, ended}
use Rattle.c_items.proofs.functions.defines.Goals as goal
use Rattle.c_items.proofs.functions.defines.Goals.{then-open-eq0+then-is_among, then-open-eq0+else-is_among+else-not-is_among, else-open-eq0+then-is_among-2, else-open-eq0+else-is_among-2+then-is_among-3, else-open-eq0+else-is_among-2+else-is_among-3+else-is}

pub returns-then-not-is_among : goal.returns-then-not-is_among
returns-then-not-is_among c =
    c.is.ensures.test
    ∙ sym (stopped c.args.tokens.now 0 c.loop-turn.end 0 (defines (source c.args.tokens.now).cls c.args.at) (most - c.loop-turn.turn) c.loop-turn.open c.loop-turn.invariant.same (grind (arith, c.if-open-eq0.true)) (omega (arith, c.loop-turn-test.true)) (sym c.if-is_among.ensures.test) (sym c.if-not-is_among.ensures.test))

pub returns-then-is : goal.returns-then-is
returns-then-is c =
    sym (ended c.args.tokens.now 0 c.loop-turn.end 0 (defines (source c.args.tokens.now).cls c.args.at) (most - c.loop-turn.turn) c.loop-turn.open c.loop-turn.invariant.same (grind (arith, c.if-open-eq0.false)) (omega (arith, c.loop-turn-test.true)) (sym c.if-is_among-2.ensures.test) (sym c.if-is_among-3.ensures.test) (sym c.if-is.ensures.test))

pub loop-turn-preserved : goal.loop-turn-preserved
loop-turn-preserved c = record {
  within = grind (arith, c.if-end-tokens.false);
  turns = omega (arith, c.loop-turn-test.true);
  few = elim c.if-open-eq0.branch [
    | then-open-eq0+then-is_among w ↦ omega (arith, w.open-is)
    | then-open-eq0+else-is_among+else-not-is_among w ↦ omega (arith, w.open-is, c.loop-turn.invariant.few)
    | else-open-eq0+then-is_among-2 w ↦ omega (arith, w.open-is, c.loop-turn.invariant.few)
    | else-open-eq0+else-is_among-2+then-is_among-3 w ↦ omega (arith, w.open-is, c.loop-turn.invariant.few)
    | else-open-eq0+else-is_among-2+else-is_among-3+else-is w ↦ omega (arith, w.open-is, c.loop-turn.invariant.few)
  ];
  same =
      let some : 0 < most - c.loop-turn.turn = omega (arith, c.loop-turn-test.true) in
      let less : most - (c.loop-turn.turn + 1) ≡ most - c.loop-turn.turn - 1 = omega arith in
      let o = defines (source c.args.tokens.now).cls c.args.at in
      elim c.if-open-eq0.branch [
        | then-open-eq0+then-is_among w ↦ begun c.args.tokens.now (most - (c.loop-turn.turn + 1)) c.loop-turn.end (c.loop-turn.end + 1) o (most - c.loop-turn.turn) c.loop-turn.open c.if-open-eq0.open c.loop-turn.invariant.same (grind (arith, w.if-open-eq0.true)) some less refl w.open-is (sym w.if-is_among.ensures.test)
        | then-open-eq0+else-is_among+else-not-is_among w ↦
            rw w.open-is (went c.args.tokens.now (most - (c.loop-turn.turn + 1)) c.loop-turn.end (c.loop-turn.end + 1) o (most - c.loop-turn.turn) c.loop-turn.open c.loop-turn.invariant.same (grind (arith, w.if-open-eq0.true)) some less refl (sym w.if-is_among.ensures.test) (sym w.if-not-is_among.ensures.test))
        | else-open-eq0+then-is_among-2 w ↦ opened c.args.tokens.now (most - (c.loop-turn.turn + 1)) c.loop-turn.end (c.loop-turn.end + 1) o (most - c.loop-turn.turn) c.loop-turn.open c.if-open-eq0.open c.loop-turn.invariant.same (grind (arith, w.if-open-eq0.false)) some less refl w.open-is (sym w.if-is_among-2.ensures.test)
        | else-open-eq0+else-is_among-2+then-is_among-3 w ↦
            closed c.args.tokens.now (most - (c.loop-turn.turn + 1)) c.loop-turn.end (c.loop-turn.end + 1) o (most - c.loop-turn.turn) c.loop-turn.open c.if-open-eq0.open c.loop-turn.invariant.same (grind (arith, w.if-open-eq0.false)) some less refl w.open-is (sym w.if-is_among-2.ensures.test) (sym w.if-is_among-3.ensures.test)
        | else-open-eq0+else-is_among-2+else-is_among-3+else-is w ↦
            rw w.open-is (inside c.args.tokens.now (most - (c.loop-turn.turn + 1)) c.loop-turn.end (c.loop-turn.end + 1) o (most - c.loop-turn.turn) c.loop-turn.open c.loop-turn.invariant.same (grind (arith, w.if-open-eq0.false)) some less refl (sym w.if-is_among-2.ensures.test) (sym w.if-is_among-3.ensures.test) (sym w.if-is.ensures.test))
      ];
}
