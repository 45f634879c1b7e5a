use Rattle.std.proofs.Common.{rules}
use Rattle.path_glob.specs.Glob.{StandsForChars, AtEnd}
use Rattle.path_glob.proofs.Fitting.{front_any, front_more, front_whole, front_over}
use Rattle.path_glob.proofs.Signs.{star_any, other_one, stands_for, nothing_left, something_left}
use Rattle.path_glob.proofs.name.front.Goals as goal

pub returns-then-sign-eq42 : goal.returns-then-sign-eq42
returns-then-sign-eq42 c = front_any StandsForChars AtEnd _ _ _ _ c.in-Some.sign _ c.in-Some.ensures (star_any c.in-Some.sign c.if-sign-eq42.true) c.signs.invariant.1

pub signs-preserved : goal.signs-preserved
signs-preserved c = (
  (search rules, search rules),
  front_more StandsForChars AtEnd _ _ _ _ c.in-Some.sign _ c.in-Some-first_char.c _ c.in-Some.ensures c.in-Some-first_char.ensures
      (other_one c.in-Some.sign c.if-sign-eq42.false) (stands_for c.in-Some.sign c.in-Some-first_char.c (c.stands_for.ensures.0 c.if-not-stands_for.false)) c.signs.invariant.1,
)

pub returns-then-is_empty : goal.returns-then-is_empty
returns-then-is_empty c = front_whole StandsForChars AtEnd _ _ _ _ c.in_default.ensures (nothing_left c.signs.segment.now c.if-is_empty.ensures) c.signs.invariant.1

pub returns-else-is_empty : goal.returns-else-is_empty
returns-else-is_empty c = front_over StandsForChars AtEnd _ _ _ _ c.in_default.ensures (something_left c.signs.segment.now c.signs.invariant.0.1 c.if-is_empty.ensures) c.signs.invariant.1
