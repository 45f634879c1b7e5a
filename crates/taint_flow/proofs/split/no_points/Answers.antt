use Rattle.std.proofs.Common.{arith, subst, List, ℕ}
use Rattle.std.specs.Global.{Vec}
use Rattle.taint_flow.specs.Splits.{ListHas}
use Rattle.taint_flow.proofs.Splitting.{lists_none}
use Rattle.taint_flow.proofs.split.no_points.Goals as goal

pub loop-init : goal.loop-init
loop-init c = record {
  size = omega arith;
  none = λ source at h. let P : List (Vec (ℕ × ℕ)) → Type 0 = λ t. ListHas t source at in subst P c.new-added.ensures.items h;
}

pub loop-preserved : goal.loop-preserved
loop-preserved c = record {
  size = omega (arith, c.in_ok-push.ensures.len, c.loop.invariant.size);
  none = λ source at h.
      let P : List (Vec (ℕ × ℕ)) → Type 0 = λ t. ListHas t source at in
      lists_none c.loop.added.items c.new.result source at c.loop.invariant.none c.new.ensures.items (subst P c.in_ok-push.ensures.items h);
}

pub returns-clause-size : goal.returns-clause-size
returns-clause-size c = omega (arith, c.loop.invariant.size, c.loop-test.false)
