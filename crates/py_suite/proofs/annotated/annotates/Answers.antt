use Rattle.std.proofs.Common.{arith, sym, zero, ◌-◌, ◌∙◌}
use Rattle.py_suite.specs.Table as table
use Rattle.py_suite.proofs.Colons.{opened, went, stopped, closed, inside, ended}
use Rattle.py_suite.proofs.annotated.annotates.Goals as goal
use Rattle.py_suite.proofs.annotated.annotates.Goals.{then-is_among, else-is_among+then-open-eq0+else-not-is_among, else-is_among+else-open-eq0+then-is_among-2, else-is_among+else-open-eq0+else-is_among-2+else-is}

pub returns-then-not-is_among : goal.returns-then-not-is_among
returns-then-not-is_among c = c.is.ensures.test ∙ sym (stopped c.args.items.now zero c.loop-turn.end zero _ (table.most - c.loop-turn.turn) c.loop-turn.open c.loop-turn.invariant.rest c.if-open-eq0.true (omega arith) (sym c.if-is_among.ensures) (sym c.if-not-is_among.ensures))

pub returns-then-is : goal.returns-then-is
returns-then-is c = sym (ended c.args.items.now zero c.loop-turn.end zero _ (table.most - c.loop-turn.turn) c.loop-turn.open c.loop-turn.invariant.rest (omega arith) (omega arith) (sym c.if-is_among.ensures) (sym c.if-is_among-2.ensures) (sym c.if-is.ensures.test))

pub loop-turn-preserved : goal.loop-turn-preserved
loop-turn-preserved c = elim c.if-is_among.branch [
  | then-is_among w ↦ record {
    few = omega (arith, w.open-is);
    rest = opened c.args.items.now _ c.loop-turn.end _ _ (table.most - c.loop-turn.turn) c.loop-turn.open _ c.loop-turn.invariant.rest (omega arith) (omega arith) (omega arith) (omega (arith, w.open-is)) (sym w.if-is_among.ensures);
  }
  | else-is_among+then-open-eq0+else-not-is_among w ↦ record {
    few = omega (arith, w.open-is);
    rest = rw w.open-is (went c.args.items.now _ c.loop-turn.end _ _ (table.most - c.loop-turn.turn) c.loop-turn.open c.loop-turn.invariant.rest w.if-open-eq0.true (omega arith) (omega arith) (omega arith) (sym w.if-is_among.ensures) (sym w.if-not-is_among.ensures));
  }
  | else-is_among+else-open-eq0+then-is_among-2 w ↦ record {
    few = omega (arith, w.open-is);
    rest = closed c.args.items.now _ c.loop-turn.end _ _ (table.most - c.loop-turn.turn) c.loop-turn.open _ c.loop-turn.invariant.rest (omega (arith, w.if-open-eq0.false)) (omega arith) (omega arith) (omega arith) (omega (arith, w.open-is)) (sym w.if-is_among.ensures) (sym w.if-is_among-2.ensures);
  }
  | else-is_among+else-open-eq0+else-is_among-2+else-is w ↦ record {
    few = omega (arith, w.open-is);
    rest = rw w.open-is (inside c.args.items.now _ c.loop-turn.end _ _ (table.most - c.loop-turn.turn) c.loop-turn.open c.loop-turn.invariant.rest (omega (arith, w.if-open-eq0.false)) (omega arith) (omega arith) (omega arith) (sym w.if-is_among.ensures) (sym w.if-is_among-2.ensures) (sym w.if-is.ensures.test));
  }
]
