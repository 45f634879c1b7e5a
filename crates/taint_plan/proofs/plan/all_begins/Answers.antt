use Rattle.std.proofs.Common.{◌↔◌, ◌⊎◌, ◌+◌, ℕ, List, take, subst}
use Rattle.std.specs.Global.{Vec}
use Rattle.std.proofs.lemmas.List.{take_all}
use Rattle.graph_form.specs.Sets.{Among}
use Rattle.flow_reach.proofs.Steps.{either_way}
use Rattle.taint_plan.proofs.PlanLists.{all_more, item_more}
use Rattle.taint_plan.proofs.plan.all_begins.Goals as goal

pub loop-facts-init : goal.loop-facts-init
loop-facts-init c fact = (λ h. (let P : List ℕ → Type 0 = λ xs. Among xs fact in absurd (subst P c.new-all.ensures.items h)), λ h. absurd h.1)

pub loop-facts-preserved : goal.loop-facts-preserved
loop-facts-preserved c fact =
    let xs = c.args.begins.now in
    let i = c.loop-facts.facts-index in
    let x = c.facts-item.result in
    let P : List ℕ → Type 0 = λ ys. Among c.push_all.new.into.items fact ↔ (Among c.loop-facts.all.items fact ⊎ Among ys fact) in
    either_way _ _ _ _ _ _ (subst P c.deref.ensures.value (c.in_ok-push_all.ensures fact)) (c.loop-facts.invariant fact) (λ h. h, λ h. h) (all_more (take i xs) (take (i + 1) xs) x (item_more xs i x c.loop-facts-test.true c.facts-item.is) fact)

pub returns : goal.returns
returns c fact =
    let P : List (Vec ℕ) → Type 0 = λ xs. Among c.loop-facts.all.items fact ↔ ((x : Vec ℕ) × Among xs x × Among x.items fact) in
    subst P (take_all c.loop-facts.facts-index c.args.begins.now c.loop-facts-test.false) (c.loop-facts.invariant fact)
