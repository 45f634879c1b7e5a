use Rattle.std.proofs.Common.{◌≡◌, ◌↔◌, ◌⊎◌, inl, inr, ◌<◌, ◌+◌, List, take, ap, ◌∙◌, subst}
use Rattle.std.proofs.lemmas.List.{take_all}
use Rattle.node_tree.specs.Numbers.{Numbered}
use Rattle.node_pool.specs.Spots.{seen, all_seen}
use Rattle.flow_reach.specs.Spread.{RowHas}
use Rattle.flow_reach.proofs.Steps.{more}
use Rattle.assignments.specs.Declarators.{parameters_of}
use Rattle.taint_plan.specs.Begins.{BeginsAmong}
use Rattle.taint_tables.specs.Numbers.{numbers_of}
use Rattle.taint_tables.proofs.FactLists.{seen_more}
use Rattle.taint_plan.proofs.PlanLists.{begins_more}
use Rattle.taint_plan.proofs.plan.begins.Goals as goal

pub loop-spot-init : goal.loop-spot-init
loop-spot-init c = record {
  size = c.in_ok-begins.ensures.size;
  begins = λ source fact. let o = c.in_ok-begins.ensures.own source fact in (λ h. inl (o.0 h), λ h. elim h [ inl a ↦ o.1 a | inr bad ↦ absurd bad.1 ]);
}

pub loop-spot-preserved : goal.loop-spot-preserved
loop-spot-preserved c =
    let numbers = numbers_of c.args.look.census.now in
    let xs = c.as_slice-spot-items.result.now in
    let i = c.loop-spot.spot-index in
    let x = c.spot-item.result in
    record {
      size = c.in_ok-add_begin.ensures.size ∙ c.loop-spot.invariant.size;
      begins = λ source fact. more _ _ _ _ _ _ (c.in_ok-add_begin.ensures.added source fact) (c.loop-spot.invariant.begins source fact)
          (begins_more numbers (all_seen (take i xs)) (all_seen (take (i + 1) xs)) (seen x) (seen_more xs i x c.loop-spot-test.true c.spot-item.is) source fact);
    }

pub returns-clause-begins : goal.returns-clause-begins
returns-clause-begins c source fact =
    let items = c.as_slice-spot-items.result.now in
    let whole : all_seen (take c.loop-spot.spot-index items) ≡ parameters_of c.args.tree.now c.args.unit = ap all_seen (take_all c.loop-spot.spot-index items c.loop-spot-test.false ∙ c.as_slice-spot-items.ensures) ∙ c.in_ok-own.ensures in
    let P : List Numbered → Type 0 = λ ss. RowHas c.loop-spot.begins.items source fact ↔ (((source < c.args.sources) × (fact ≡ source)) ⊎ BeginsAmong (numbers_of c.args.look.census.now) ss source fact) in
    subst P whole (c.loop-spot.invariant.begins source fact)
