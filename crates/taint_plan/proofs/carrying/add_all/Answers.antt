use Rattle.std.proofs.Common.{◌↔◌, ◌⊎◌, inl, inr, ◌+◌, List, take, get_or, subst}
use Rattle.std.proofs.lemmas.List.{take_all}
use Rattle.node_pool.specs.Spots.{all_seen}
use Rattle.graph_form.specs.Sets.{Among}
use Rattle.graph_form.proofs.Amongs.{among_more}
use Rattle.flow_reach.proofs.Steps.{more}
use Rattle.taint_tables.specs.declared.sets.Carry.{Carry}
use Rattle.taint_tables.specs.Numbers.{numbers_of}
use Rattle.taint_plan.specs.RowFacts.{CarriesOver, CarriesAt}
use Rattle.taint_plan.proofs.CarryLists.{at_more}
use Rattle.taint_plan.proofs.carrying.add_all.Goals as goal

abbrev none : Carry
none = record { range = record { from = 0; to = 0 }; source = record { from = 0; to = 0 }; target = record { from = 0; to = 0 } }

pub loop-carry-init : goal.loop-carry-init
loop-carry-init c spans holds from to = (λ h. inl h, λ h. elim h [ inl a ↦ a | inr bad ↦ absurd bad.1 ])

pub loop-carry-preserved : goal.loop-carry-preserved
loop-carry-preserved c spans holds from to =
    let xs = c.args.carries.now in
    let i = c.loop-carry.carry-index in
    let over = CarriesOver spans (numbers_of c.args.look.census.now) (all_seen c.args.spots.now) in
    more _ _ _ _ _ _ (c.in_ok-add_if.ensures spans holds from to) (c.loop-carry.invariant spans holds from to) (at_more over c.args.range (take i xs) (take (i + 1) xs) (get_or xs i none) (among_more xs i none c.loop-carry-test.true) from to)

pub returns : goal.returns
returns c spans holds from to =
    let P : List Carry → Type 0 = λ xs. Among c.loop-carry.into.items (from, to) ↔ (Among c.args.into.now.items (from, to) ⊎ CarriesAt spans (numbers_of c.args.look.census.now) (all_seen c.args.spots.now) xs c.args.range from to) in
    subst P (take_all c.loop-carry.carry-index c.args.carries.now c.loop-carry-test.false) (c.loop-carry.invariant spans holds from to)
