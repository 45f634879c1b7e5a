use Rattle.std.proofs.Common.{◌↔◌, List, [], ◌∷◌, ◌+◌, ◌-◌, length, take, drop, refl, subst}
use Rattle.std.specs.Prelude.{None}
use Rattle.std.proofs.lemmas.Result.{err_from_is_err_and}
use Rattle.meta_bind.proofs.Joins.{slice_rest}
use Rattle.member_join.specs.declared.state.State.{State}
use Rattle.member_join.specs.declared.operand.Role.TheVariants.{Plain, Inside}
use Rattle.node_match.specs.Sets.{Among}
use Rattle.member_join.specs.Joins.{IsJoined, IsNeeded}
use Rattle.member_join.specs.Limits.{OneSet, IsFaultFrom}
use Rattle.member_join.specs.Operands.{WithBytes}
use Rattle.member_join.proofs.Reaching.{going_start, start_fault, going_at, fault_at, going_ends, inside_at, inside_fault_at, all_reached, all_searched}
use Rattle.member_join.proofs.choice.states_from.Goals as goal

pub loop-i-init : goal.loop-i-init
loop-i-init c = going_start c.args.first.now c.args.rest.now c.args.insides.now _ c.in_ok-states.ensures.exact c.in_ok-states.ensures.few

pub returns-in_err-states-clause-crowded : goal.returns-in_err-states-clause-crowded
returns-in_err-states-clause-crowded c =
    let p = err_from_is_err_and c.from_residual.result c.from_residual.ensures.1 in
    rw (p.1, p.2) (start_fault c.args.first.now c.args.rest.now c.args.insides.now c.in_err-states.field-0.0 c.in_err-states.ensures.crowded)

pub loop-i-preserved : goal.loop-i-preserved
loop-i-preserved c =
    let x = c.index-rest-i.result in
    let next = c.in_ok-more.more.items in
    let i = c.loop-i.i + 1 in
    let later = take (length c.args.rest.now - i) (drop i c.args.rest.now) in
    let P : List State → Type 0 = λ xs. (s : State) → Among next s ↔ (IsJoined Plain xs x.members.now s × IsNeeded later s) in
    let Q : List State → Type 0 = λ xs. OneSet (x.number ∷ []) (WithBytes (IsJoined Plain xs x.members.now)) None in
    going_at c.args.first.now c.args.rest.now c.args.insides.now c.requires.plains_ascend c.loop-i.states.items c.loop-i.i x c.loop-i-test.true c.index-rest-i.is c.loop-i.invariant later next (slice_rest c.args.rest.now i)
    (subst P c.as_slice-before.ensures.value c.in_ok-more.ensures.exact) (subst Q c.as_slice-before.ensures.value c.in_ok-more.ensures.few)

pub returns-in_err-more-clause-crowded : goal.returns-in_err-more-clause-crowded
returns-in_err-more-clause-crowded c =
    let x = c.index-rest-i.result in
    let e = c.in_err-more.field-0.0 in
    let p = err_from_is_err_and c.from_residual-in_err-more.result c.from_residual-in_err-more.ensures.1 in
    let Q : List State → Type 0 = λ xs. IsFaultFrom (OneSet (x.number ∷ []) (WithBytes (IsJoined Plain xs x.members.now))) e in
    rw (p.1, p.2) (fault_at c.args.first.now c.args.rest.now c.args.insides.now c.requires.plains_ascend c.loop-i.states.items c.loop-i.i x c.loop-i-test.true c.index-rest-i.is c.loop-i.invariant e
    (subst Q c.as_slice-before.ensures.value c.in_err-more.ensures.crowded))

pub loop-operand-init : goal.loop-operand-init
loop-operand-init c = going_ends c.args.first.now c.args.rest.now c.args.insides.now c.requires.plains_ascend c.loop-i.states.items c.loop-i.i c.loop-i-test.false c.loop-i.invariant

pub loop-operand-preserved : goal.loop-operand-preserved
loop-operand-preserved c =
    let x = c.operand-item.result in
    let next = c.in_ok-inner.inner.items in
    let P : List State → Type 0 = λ xs. (s : State) → Among next s ↔ (IsJoined Inside xs x.members.now s × IsNeeded [] s) in
    let Q : List State → Type 0 = λ xs. OneSet (x.number ∷ []) (WithBytes (IsJoined Inside xs x.members.now)) None in
    inside_at c.args.first.now c.args.rest.now c.args.insides.now c.requires.plains_ascend c.loop-operand.states.items c.requires.insides_ascend c.loop-operand.operand-index x c.loop-operand-test.true c.operand-item.is c.loop-operand.invariant [] next refl
    (subst P c.as_slice-outer.ensures.value c.in_ok-inner.ensures.exact) (subst Q c.as_slice-outer.ensures.value c.in_ok-inner.ensures.few)

pub returns-in_err-inner-clause-crowded : goal.returns-in_err-inner-clause-crowded
returns-in_err-inner-clause-crowded c =
    let x = c.operand-item.result in
    let e = c.in_err-inner.field-0.0 in
    let p = err_from_is_err_and c.from_residual-in_err-inner.result c.from_residual-in_err-inner.ensures.1 in
    let Q : List State → Type 0 = λ xs. IsFaultFrom (OneSet (x.number ∷ []) (WithBytes (IsJoined Inside xs x.members.now))) e in
    rw (p.1, p.2) (inside_fault_at c.args.first.now c.args.rest.now c.args.insides.now c.requires.plains_ascend c.loop-operand.states.items c.requires.insides_ascend c.loop-operand.operand-index x c.loop-operand-test.true c.operand-item.is c.loop-operand.invariant e
    (subst Q c.as_slice-outer.ensures.value c.in_err-inner.ensures.crowded))

pub returns-clause-exact : goal.returns-clause-exact
returns-clause-exact c = all_reached c.args.first.now c.args.rest.now c.args.insides.now c.requires.plains_ascend c.loop-operand.states.items c.loop-operand.operand-index c.loop-operand-test.false c.loop-operand.invariant

pub returns-clause-few : goal.returns-clause-few
returns-clause-few c = all_searched c.args.first.now c.args.rest.now c.args.insides.now c.requires.plains_ascend c.loop-operand.states.items c.loop-operand.operand-index c.loop-operand-test.false c.loop-operand.invariant
