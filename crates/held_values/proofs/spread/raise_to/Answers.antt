use Rattle.std.proofs.Common.{ℕ, List, arith, subst}
use Rattle.std.proofs.lemmas.List.{take_all}
use Rattle.graph_form.proofs.Amongs.{among_at, among_more}
use Rattle.held_values.specs.Slots.{Raised, ComesTo}
use Rattle.held_values.proofs.Raising.{raised_none, raised_then, to_more}
use Rattle.held_values.proofs.spread.raise_to.Goals as goal

pub loop-point-init : goal.loop-point-init
loop-point-init c = raised_none _ _ (λ k v came. came.1)

pub overflow_add-base : goal.overflow_add-base
overflow_add-base c = omega (arith, c.requires.room _ (among_at c.args.points.now c.loop-point.point-index 0 c.loop-point-test.true), c.requires.few)

pub raise-requires-clause-room : goal.raise-requires-clause-room
raise-requires-clause-room c = omega (arith, c.requires.room _ (among_at c.args.points.now c.loop-point.point-index 0 c.loop-point-test.true), c.loop-point.invariant.size)

pub raise-requires-clause-few : goal.raise-requires-clause-few
raise-requires-clause-few c = omega (arith, c.requires.few, c.loop-point.invariant.size)

pub loop-point-preserved : goal.loop-point-preserved
loop-point-preserved c =
    raised_then _ _ _ _ _ _ c.loop-point.invariant c.in_ok-raise.ensures (λ k v. to_more c.args.base _ _ _ c.args.value k v (among_more c.args.points.now c.loop-point.point-index 0 c.loop-point-test.true))

pub returns : goal.returns
returns c =
    let P : List ℕ → Type 0 = λ ps. Raised (ComesTo c.args.base ps c.args.value) c.args.slots.now c.loop-point.slots in
    subst P (take_all c.loop-point.point-index c.args.points.now c.loop-point-test.false) c.loop-point.invariant
