use Rattle.std.proofs.Common.{arith, sym, subst, ◌∙◌, List, ℕ, ◌≡◌, ◌↔◌, ◌+◌, take}
use Rattle.std.proofs.lemmas.List.{take_all}
use Rattle.graph_form.specs.Sets.{Among}
use Rattle.trace_path.specs.Along.{IsDistinct}
use Rattle.trace_path.specs.Queue.{Ascends}
use Rattle.trace_path.proofs.Follow.{distinct_none}
use Rattle.trace_path.proofs.check.distinct.Goals as goal

pub add_new-requires-clause-ascends : goal.add_new-requires-clause-ascends
add_new-requires-clause-ascends c = let P : List ℕ → Type 0 = λ xs. Ascends xs in subst P (sym c.deref.ensures.value) c.in_ok-sorted.ensures.ascends

pub add_new-requires-clause-distinct : goal.add_new-requires-clause-distinct
add_new-requires-clause-distinct c = let P : List ℕ → Type 0 = λ xs. IsDistinct xs c.loop-at.at c.loop-at.found.items in subst P (sym c.deref.ensures.value) c.loop-at.invariant

pub loop-at-init : goal.loop-at-init
loop-at-init c = distinct_none c.in_ok-sorted.sorted.items c.new-found.result.items c.new-found.ensures.items

pub loop-at-preserved : goal.loop-at-preserved
loop-at-preserved c = let P : List ℕ → Type 0 = λ xs. IsDistinct xs (c.loop-at.at + 1) c.add_new.new.found.items in subst P c.deref.ensures.value c.in_ok-add_new.ensures

pub returns-clause-same : goal.returns-clause-same
returns-clause-same c f =
    let whole : take c.loop-at.at c.in_ok-sorted.sorted.items ≡ c.in_ok-sorted.sorted.items = take_all c.loop-at.at c.in_ok-sorted.sorted.items (omega (arith, c.loop-at-test.false, c.len-at-end.ensures)) in
    let P : List ℕ → Type 0 = λ xs. Among c.loop-at.found.items f ↔ Among xs f in
    let a = subst P whole (c.loop-at.invariant.same f) in
    let b = c.in_ok-sorted.ensures.same f in
    (λ h. b.0 (a.0 h), λ h. a.1 (b.1 h))
