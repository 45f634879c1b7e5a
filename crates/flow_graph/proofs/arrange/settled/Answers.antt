use Rattle.std.proofs.Common.{arith, sym, subst, ◌≡◌, ◌↔◌, ◌+◌, List, ℕ, take}
use Rattle.std.proofs.lemmas.List.{take_all}
use Rattle.std.proofs.lemmas.List.Sorted.{IsNonDecreasingBy-from_sort}
use Rattle.graph_form.specs.Sets.{Among}
use Rattle.graph_form.proofs.Amongs.{same_items}
use Rattle.flow_graph.specs.Keys.{Stays, Settles}
use Rattle.flow_graph.proofs.Orders.{none_settled}
use Rattle.flow_graph.proofs.arrange.settled.Goals as goal

pub add_number-requires-clause-stays : goal.add_number-requires-clause-stays
add_number-requires-clause-stays c =
    let P : List ℕ → Type 0 = λ xs. Stays xs in
    subst P (sym c.deref.ensures.value) (λ i j le lt. IsNonDecreasingBy-from_sort (λ x. x) c.sort.new.self.items c.in_ok-sort.ensures.sorted i j 0 le lt)

pub add_number-requires-clause-settles : goal.add_number-requires-clause-settles
add_number-requires-clause-settles c = let P : List ℕ → Type 0 = λ xs. Settles xs c.loop-at.at c.loop-at.all.items in subst P (sym c.deref.ensures.value) c.loop-at.invariant

pub loop-at-init : goal.loop-at-init
loop-at-init c = none_settled c.sort.new.self.items c.new-all.result.items c.new-all.ensures.items

pub loop-at-preserved : goal.loop-at-preserved
loop-at-preserved c = let P : List ℕ → Type 0 = λ xs. Settles xs (c.loop-at.at + 1) c.add_number.new.all.items in subst P c.deref.ensures.value c.in_ok-add_number.ensures

pub returns-clause-same : goal.returns-clause-same
returns-clause-same c x =
    let whole : take c.loop-at.at c.sort.new.self.items ≡ c.sort.new.self.items = take_all c.loop-at.at c.sort.new.self.items (omega (arith, c.loop-at-test.false, c.len-at-end.ensures)) in
    let P : List ℕ → Type 0 = λ xs. Among c.loop-at.all.items x ↔ Among xs x in
    let a = subst P whole (c.loop-at.invariant.same x) in
    let b = same_items c.args.numbers.items c.sort.new.self.items c.in_ok-sort.ensures.permutation x in
    (λ h. b.0 (a.0 h), λ h. a.1 (b.1 h))
