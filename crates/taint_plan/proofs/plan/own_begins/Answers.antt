use Rattle.std.proofs.Common.{◌↔◌, ◌≡◌, ◌<◌, ◌++◌, ◌∷◌, [], ℕ, List, ap, ◌∙◌, subst, arith}
use Rattle.std.specs.Global.{Vec}
use Rattle.flow_reach.specs.Spread.{RowHas}
use Rattle.taint_plan.proofs.PlanLists.{own_more}
use Rattle.taint_plan.proofs.plan.own_begins.Goals as goal

pub loop-source-init : goal.loop-source-init
loop-source-init c = record {
  size = omega arith;
  own = λ source fact. (
    λ h. (let P : List (Vec ℕ) → Type 0 = λ t. RowHas t source fact in absurd (subst P c.new-begins.ensures.items h)),
    λ (lt, e). absurd (omega (arith, lt)),
  );
}

pub loop-source-preserved : goal.loop-source-preserved
loop-source-preserved c = record {
  size = omega (arith, c.in_ok-push-2.ensures.len, c.loop-source.invariant.size);
  own = own_more c.loop-source.begins.items c.push-in-loop-source.new.self.items c.push.new.self c.loop-source.source c.loop-source.invariant.size (c.in_ok-push.ensures.items ∙ ap (λ xs. xs ++ c.loop-source.source ∷ []) c.new-facts.ensures.items)
      c.in_ok-push-2.ensures.items c.loop-source.invariant.own;
}

pub returns-clause-size : goal.returns-clause-size
returns-clause-size c = omega (arith, c.loop-source.invariant.size, c.loop-source-test.false, c.loop-source.auto.source-end)

pub returns-clause-own : goal.returns-clause-own
returns-clause-own c =
    let e : c.loop-source.source ≡ c.args.sources = omega (arith, c.loop-source-test.false, c.loop-source.auto.source-end) in
    let P : ℕ → Type 0 = λ n. (source fact : ℕ) → RowHas c.loop-source.begins.items source fact ↔ ((source < n) × (fact ≡ source)) in
    subst P e c.loop-source.invariant.own
