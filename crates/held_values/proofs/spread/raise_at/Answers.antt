use Rattle.std.proofs.Common.{List, arith, subst}
use Rattle.std.proofs.lemmas.List.{take_all}
use Rattle.graph_form.proofs.Amongs.{among_at, among_more}
use Rattle.held_values.specs.declared.targets.Target.{Target}
use Rattle.held_values.specs.Slots.{Raised, ComesAt}
use Rattle.held_values.proofs.Raising.{raised_none, raised_then, at_more}
use Rattle.held_values.proofs.spread.raise_at.Goals as goal

abbrev none : Target
none = record { name = 0; value = 0 }

pub loop-target-init : goal.loop-target-init
loop-target-init c = raised_none _ _ (λ k v came. came.1)

pub overflow_mul-target : goal.overflow_mul-target
overflow_mul-target c = omega (arith, c.requires.inside _ (among_at c.args.targets.now c.loop-target.target-index none c.loop-target-test.true))

pub raise_to-requires-clause-few : goal.raise_to-requires-clause-few
raise_to-requires-clause-few c = omega (arith, c.requires.few, c.loop-target.invariant.size)

pub raise_to-requires-clause-room : goal.raise_to-requires-clause-room
raise_to-requires-clause-room c point among = omega (arith, c.requires.room _ point (among_at c.args.targets.now c.loop-target.target-index none c.loop-target-test.true) among, c.loop-target.invariant.size)

pub raise_to-requires-clause-small : goal.raise_to-requires-clause-small
raise_to-requires-clause-small c = c.requires.small _ (among_at c.args.targets.now c.loop-target.target-index none c.loop-target-test.true)

pub loop-target-preserved : goal.loop-target-preserved
loop-target-preserved c =
    raised_then _ _ _ _ _ _ c.loop-target.invariant c.in_ok-raise_to.ensures (λ k v. at_more c.args.points.now c.args.width _ _ _ k v (among_more c.args.targets.now c.loop-target.target-index none c.loop-target-test.true))

pub returns : goal.returns
returns c =
    let P : List Target → Type 0 = λ ts. Raised (ComesAt c.args.points.now c.args.width ts) c.args.slots.now c.loop-target.slots in
    subst P (take_all c.loop-target.target-index c.args.targets.now c.loop-target-test.false) c.loop-target.invariant
