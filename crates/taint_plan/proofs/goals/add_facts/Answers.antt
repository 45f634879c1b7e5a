use Rattle.std.proofs.Common.{inl, inr, sym, ◌≡◌, ◌↔◌, ◌+◌, ℕ, List, take, get_or, ◌∙◌, subst}
use Rattle.std.proofs.lemmas.List.{take_all}
use Rattle.graph_form.specs.Sets.{Among}
use Rattle.graph_form.proofs.Amongs.{among_more}
use Rattle.flow_reach.proofs.Steps.{as_right, more}
use Rattle.taint_tables.specs.Taints.{Taints}
use Rattle.taint_tables.specs.Numbers.{numbers_of}
use Rattle.taint_plan.proofs.GoalLists.{goal_pushed, of_either, of_same}
use Rattle.taint_plan.proofs.goals.add_facts.Goals as goal

pub loop-fact-init : goal.loop-fact-init
loop-fact-init c g = (λ h. inl h, λ h. elim h [ inl a ↦ a | inr bad ↦ absurd bad.2 ])

pub loop-fact-preserved : goal.loop-fact-preserved
loop-fact-preserved c g =
    let xs = c.deref-fact-items.result.now in
    let i = c.loop-fact.fact-index in
    more _ _ _ _ _ _ (goal_pushed c.loop-fact.into _ c.args.sink c.args.place (get_or xs i 0) c.in_ok-push.ensures.ok g) (c.loop-fact.invariant g)
    (of_either c.args.sink c.args.place (Among (take i xs)) (λ f. get_or xs i 0 ≡ f) (Among (take (i + 1) xs)) (among_more xs i 0 c.loop-fact-test.true) g)

pub returns : goal.returns
returns c spans holds g =
    let numbers = numbers_of c.args.look.census.now in
    let xs = c.deref-fact-items.result.now in
    let all : take c.loop-fact.fact-index xs ≡ c.in_ok-facts.facts.items = take_all c.loop-fact.fact-index xs c.loop-fact-test.false ∙ c.deref-fact-items.ensures.value in
    let P : List ℕ → Type 0 = λ ys. (f : ℕ) → Among ys f ↔ Taints spans numbers c.args.node.now f in
    as_right _ _ _ _ (c.loop-fact.invariant g) (of_same c.args.sink c.args.place _ (Taints spans numbers c.args.node.now) (subst P (sym all) (c.in_ok-facts.ensures spans holds)) g)
