use Rattle.std.proofs.Common.{ℕ, ◌≡◌, arith, length, subst}
use Rattle.std.proofs.lemmas.Nat.{mul-add-lt}
use Rattle.graph_form.proofs.Amongs.{among_at}
use Rattle.held_values.specs.Slots.{Raised, Enters}
use Rattle.held_values.proofs.Raising.{raised_none, raised_then, enters_more}
use Rattle.held_values.proofs.spread.enter.Goals as goal

pub loop-name-init : goal.loop-name-init
loop-name-init c = raised_none _ _ (λ k v came. absurd (omega (arith, came.1)))

pub overflow_mul-name : goal.overflow_mul-name
overflow_mul-name c = omega (arith, mul-add-lt c.loop-name.name c.args.width 0 (length c.args.start.now) c.loop-name-test.true c.requires.some, c.requires.room, c.requires.few)

pub raise-requires-clause-room : goal.raise-requires-clause-room
raise-requires-clause-room c = omega (arith, mul-add-lt c.loop-name.name c.args.width 0 (length c.args.start.now) c.loop-name-test.true c.requires.some, c.requires.room, c.loop-name.invariant.size)

pub raise-requires-clause-few : goal.raise-requires-clause-few
raise-requires-clause-few c = omega (arith, c.requires.few, c.loop-name.invariant.size)

pub raise-requires-clause-small : goal.raise-requires-clause-small
raise-requires-clause-small c = c.requires.small _ (among_at c.args.start.now c.loop-name.name 0 c.loop-name-test.true)

pub loop-name-preserved : goal.loop-name-preserved
loop-name-preserved c = raised_then _ _ _ _ _ _ c.loop-name.invariant c.in_ok-raise.ensures (λ k v. enters_more c.args.start.now c.args.width c.loop-name.name k v c.loop-name-test.true)

pub returns : goal.returns
returns c =
    let e : c.loop-name.name ≡ length c.args.start.now = omega (arith, c.loop-name-test.false, c.loop-name.auto.name-end) in
    let P : ℕ → Type 0 = λ n. Raised (Enters c.args.start.now c.args.width n) c.args.slots.now c.loop-name.slots in
    subst P e c.loop-name.invariant
