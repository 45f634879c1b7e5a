use Rattle.std.proofs.Common.{inr, ◌↔◌, ◌⊎◌, inl, ◌+◌, List, take, subst}
use Rattle.std.specs.Borrow.{Bor}
use Rattle.std.proofs.lemmas.List.{take_all}
use Rattle.node_tree.specs.declared.node.Node.{Node}
use Rattle.graph_form.specs.Sets.{Among}
use Rattle.flow_reach.proofs.Steps.{more}
use Rattle.taint_form.specs.Expressions.{nodes_now}
use Rattle.taint_tables.specs.Taints.{Taints}
use Rattle.taint_tables.specs.Numbers.{numbers_of}
use Rattle.taint_plan.specs.SinkGoals.{IsOf, TaintsAny}
use Rattle.taint_tables.proofs.FactLists.{lent_more}
use Rattle.taint_plan.proofs.GoalLists.{of_either, taints_more}
use Rattle.taint_plan.proofs.goals.add_all_facts.Goals as goal

pub loop-node-init : goal.loop-node-init
loop-node-init c spans holds g = (λ h. inl h, λ h. elim h [ inl a ↦ a | inr bad ↦ absurd bad.2.1 ])

pub loop-node-preserved : goal.loop-node-preserved
loop-node-preserved c spans holds g =
    let numbers = numbers_of c.args.look.census.now in
    let xs = c.args.shown.now in
    let i = c.loop-node.node-index in
    let x = c.node-item.result in
    more _ _ _ _ _ _ (c.in_ok-add_facts.ensures spans holds g) (c.loop-node.invariant spans holds g)
    (of_either c.args.sink c.args.place (TaintsAny spans numbers (nodes_now (take i xs))) (Taints spans numbers x.now) (TaintsAny spans numbers (nodes_now (take (i + 1) xs)))
    (taints_more spans numbers (nodes_now (take i xs)) (nodes_now (take (i + 1) xs)) x.now (lent_more xs i x c.loop-node-test.true c.node-item.is)) g)

pub returns : goal.returns
returns c spans holds g =
    let P : List (Bor Node) → Type 0 = λ xs. Among c.loop-node.into g ↔ (Among c.args.into.now g ⊎ IsOf c.args.sink c.args.place (TaintsAny spans (numbers_of c.args.look.census.now) (nodes_now xs)) g) in
    subst P (take_all c.loop-node.node-index c.args.shown.now c.loop-node-test.false) (c.loop-node.invariant spans holds g)
