use Rattle.std.proofs.Common.{◌≡◌, ◌∙◌, List, [], map, length, refl, sym, subst, arith}
use Rattle.std.specs.Prelude.{None, Some}
use Rattle.std.proofs.lemmas.Bool.Decides.{nat_tests}
use Rattle.member_join.specs.declared.operand.Operand.{Operand}
use Rattle.member_join.specs.declared.operand.Role.TheVariants.{Plain, Inside}
use Rattle.range_algebra.specs.Trees.{branch_of, branches_of}
use Rattle.member_join.specs.Choices.{IsMet}
use Rattle.range_algebra.specs.Meets.{IsChosen}
use Rattle.range_algebra.specs.Crowds.{Prefixes}
use Rattle.member_join.specs.Operands.{OperandsAscend, ChosenFrom, Fronts}
use Rattle.range_algebra.specs.Operands.{AreOperands}
use Rattle.member_join.proofs.Reaching.{no_items, some_items}
use Rattle.range_algebra.proofs.Prefixes.{operands_ascend, plain_chosen, plain_search, inside_chosen, inside_search}
use Rattle.range_algebra.proofs.Taking.{parts_length}
use Rattle.member_join.proofs.Given.{if_ok_set, if_ok_as, if_fault_as}
use Rattle.range_algebra.proofs.choice.choices.Goals as goal

pub operands-requires : goal.operands-requires
operands-requires c = parts_length c.args.scene.leaves.now c.args.scene.rx.now c.args.scene.view.now.bytes c.args.children.now c.args.parts.now c.requires.parts

pub operands-requires-2 : goal.operands-requires-2
operands-requires-2 c = parts_length c.args.scene.leaves.now c.args.scene.rx.now c.args.scene.view.now.bytes c.args.children.now c.args.parts.now c.requires.parts

pub met_members-requires-clause-plains_ascend : goal.met_members-requires-clause-plains_ascend
met_members-requires-clause-plains_ascend c =
    let P : List Operand → Type 0 = OperandsAscend in
    subst P (sym c.as_slice-all_insides.ensures.value) (operands_ascend c.args.scene.leaves.now c.args.scene.rx.now c.args.scene.view.now.bytes Inside c.names_ascend.ensures (branches_of (map branch_of c.args.children.now)) 0 _ (c.in_ok-insides.ensures c.args.scene.leaves.now c.args.scene.rx.now c.args.scene.view.now.bytes c.requires.parts))

pub met_members-requires-clause-insides_ascend : goal.met_members-requires-clause-insides_ascend
met_members-requires-clause-insides_ascend c = λ o k. elim k [ ]

pub met_members-requires-2-clause-plains_ascend : goal.met_members-requires-2-clause-plains_ascend
met_members-requires-2-clause-plains_ascend c =
    let P : List Operand → Type 0 = OperandsAscend in
    subst P (sym c.as_slice-all_plains.ensures.value) (operands_ascend c.args.scene.leaves.now c.args.scene.rx.now c.args.scene.view.now.bytes Plain c.names_ascend.ensures (branches_of (map branch_of c.args.children.now)) 0 _ (c.in_ok-plains.ensures c.args.scene.leaves.now c.args.scene.rx.now c.args.scene.view.now.bytes c.requires.parts))

pub met_members-requires-2-clause-insides_ascend : goal.met_members-requires-2-clause-insides_ascend
met_members-requires-2-clause-insides_ascend c =
    let P : List Operand → Type 0 = OperandsAscend in
    subst P (sym c.as_slice-all_insides.ensures.value) (operands_ascend c.args.scene.leaves.now c.args.scene.rx.now c.args.scene.view.now.bytes Inside c.names_ascend.ensures (branches_of (map branch_of c.args.children.now)) 0 _ (c.in_ok-insides.ensures c.args.scene.leaves.now c.args.scene.rx.now c.args.scene.view.now.bytes c.requires.parts))

pub met_members-requires-2-clause-some : goal.met_members-requires-2-clause-some
met_members-requires-2-clause-some c = λ none. absurd (let e = sym c.is_empty.ensures ∙ c.if-is_empty.false in let f : length c.as_slice-all_plains.result.now ≡ 0 = (let P : List Operand → Type 0 = λ xs. length xs ≡ 0 in subst P (sym none) refl) in grind (arith, nat_tests))

pub returns-then-is_empty-clause-exact : goal.returns-then-is_empty-clause-exact
returns-then-is_empty-clause-exact c =
    let leaves = c.args.scene.leaves.now in
    let texts = c.args.scene.rx.now in
    let bytes = c.args.scene.view.now.bytes in
    let bs = branches_of (map branch_of c.args.children.now) in
    let plains = c.as_slice-all_plains.result.now in
    let insides = c.as_slice-all_insides.result.now in
    let P : List Operand → Type 0 = AreOperands leaves texts bytes Plain 0 bs in
    let Q : List Operand → Type 0 = AreOperands leaves texts bytes Inside 0 bs in
    let are_plain = subst P (sym c.as_slice-all_plains.ensures.value) (c.in_ok-plains.ensures leaves texts bytes c.requires.parts) in
    let are_inside = subst Q (sym c.as_slice-all_insides.ensures.value) (c.in_ok-insides.ensures leaves texts bytes c.requires.parts) in
    let none = no_items plains (let e = sym c.is_empty.ensures ∙ c.if-is_empty.true in grind (arith, nat_tests)) in
    if_ok_set (λ v. v.items) (IsMet (ChosenFrom insides) (ChosenFrom [])) (IsChosen leaves texts bytes bs) _ (inside_chosen leaves texts bytes bs plains insides are_plain are_inside none) c.met_members.ensures.exact

pub returns-then-is_empty-clause-few : goal.returns-then-is_empty-clause-few
returns-then-is_empty-clause-few c =
    let leaves = c.args.scene.leaves.now in
    let texts = c.args.scene.rx.now in
    let bytes = c.args.scene.view.now.bytes in
    let bs = branches_of (map branch_of c.args.children.now) in
    let plains = c.as_slice-all_plains.result.now in
    let insides = c.as_slice-all_insides.result.now in
    let P : List Operand → Type 0 = AreOperands leaves texts bytes Plain 0 bs in
    let Q : List Operand → Type 0 = AreOperands leaves texts bytes Inside 0 bs in
    let are_plain = subst P (sym c.as_slice-all_plains.ensures.value) (c.in_ok-plains.ensures leaves texts bytes c.requires.parts) in
    let are_inside = subst Q (sym c.as_slice-all_insides.ensures.value) (c.in_ok-insides.ensures leaves texts bytes c.requires.parts) in
    let none = no_items plains (let e = sym c.is_empty.ensures ∙ c.if-is_empty.true in grind (arith, nat_tests)) in
    if_ok_as (Fronts insides [] None) (Prefixes leaves texts bytes bs None) _ (inside_search leaves texts bytes bs plains insides are_plain are_inside none None) c.met_members.ensures.few

pub returns-then-is_empty-clause-crowded : goal.returns-then-is_empty-clause-crowded
returns-then-is_empty-clause-crowded c =
    let leaves = c.args.scene.leaves.now in
    let texts = c.args.scene.rx.now in
    let bytes = c.args.scene.view.now.bytes in
    let bs = branches_of (map branch_of c.args.children.now) in
    let plains = c.as_slice-all_plains.result.now in
    let insides = c.as_slice-all_insides.result.now in
    let P : List Operand → Type 0 = AreOperands leaves texts bytes Plain 0 bs in
    let Q : List Operand → Type 0 = AreOperands leaves texts bytes Inside 0 bs in
    let are_plain = subst P (sym c.as_slice-all_plains.ensures.value) (c.in_ok-plains.ensures leaves texts bytes c.requires.parts) in
    let are_inside = subst Q (sym c.as_slice-all_insides.ensures.value) (c.in_ok-insides.ensures leaves texts bytes c.requires.parts) in
    let none = no_items plains (let e = sym c.is_empty.ensures ∙ c.if-is_empty.true in grind (arith, nat_tests)) in
    if_fault_as (Fronts insides []) (Prefixes leaves texts bytes bs) _ (λ p. inside_search leaves texts bytes bs plains insides are_plain are_inside none (Some p)) c.met_members.ensures.crowded

pub returns-clause-exact : goal.returns-clause-exact
returns-clause-exact c =
    let leaves = c.args.scene.leaves.now in
    let texts = c.args.scene.rx.now in
    let bytes = c.args.scene.view.now.bytes in
    let bs = branches_of (map branch_of c.args.children.now) in
    let plains = c.as_slice-all_plains.result.now in
    let insides = c.as_slice-all_insides.result.now in
    let P : List Operand → Type 0 = AreOperands leaves texts bytes Plain 0 bs in
    let Q : List Operand → Type 0 = AreOperands leaves texts bytes Inside 0 bs in
    let are_plain = subst P (sym c.as_slice-all_plains.ensures.value) (c.in_ok-plains.ensures leaves texts bytes c.requires.parts) in
    let are_inside = subst Q (sym c.as_slice-all_insides.ensures.value) (c.in_ok-insides.ensures leaves texts bytes c.requires.parts) in
    let some = some_items plains (λ (none : length plains ≡ 0). let e = sym c.is_empty.ensures ∙ c.if-is_empty.false in grind (arith, nat_tests)) in
    if_ok_set (λ v. v.items) (IsMet (ChosenFrom plains) (ChosenFrom insides)) (IsChosen leaves texts bytes bs) _ (plain_chosen leaves texts bytes bs plains insides are_plain are_inside some.0 some.1 some.2) c.met_members-2.ensures.exact

pub returns-clause-few : goal.returns-clause-few
returns-clause-few c =
    let leaves = c.args.scene.leaves.now in
    let texts = c.args.scene.rx.now in
    let bytes = c.args.scene.view.now.bytes in
    let bs = branches_of (map branch_of c.args.children.now) in
    let plains = c.as_slice-all_plains.result.now in
    let insides = c.as_slice-all_insides.result.now in
    let P : List Operand → Type 0 = AreOperands leaves texts bytes Plain 0 bs in
    let Q : List Operand → Type 0 = AreOperands leaves texts bytes Inside 0 bs in
    let are_plain = subst P (sym c.as_slice-all_plains.ensures.value) (c.in_ok-plains.ensures leaves texts bytes c.requires.parts) in
    let are_inside = subst Q (sym c.as_slice-all_insides.ensures.value) (c.in_ok-insides.ensures leaves texts bytes c.requires.parts) in
    let some = some_items plains (λ (none : length plains ≡ 0). let e = sym c.is_empty.ensures ∙ c.if-is_empty.false in grind (arith, nat_tests)) in
    if_ok_as (Fronts plains insides None) (Prefixes leaves texts bytes bs None) _ (plain_search leaves texts bytes bs plains insides are_plain are_inside some.0 some.1 some.2 None) c.met_members-2.ensures.few

pub returns-clause-crowded : goal.returns-clause-crowded
returns-clause-crowded c =
    let leaves = c.args.scene.leaves.now in
    let texts = c.args.scene.rx.now in
    let bytes = c.args.scene.view.now.bytes in
    let bs = branches_of (map branch_of c.args.children.now) in
    let plains = c.as_slice-all_plains.result.now in
    let insides = c.as_slice-all_insides.result.now in
    let P : List Operand → Type 0 = AreOperands leaves texts bytes Plain 0 bs in
    let Q : List Operand → Type 0 = AreOperands leaves texts bytes Inside 0 bs in
    let are_plain = subst P (sym c.as_slice-all_plains.ensures.value) (c.in_ok-plains.ensures leaves texts bytes c.requires.parts) in
    let are_inside = subst Q (sym c.as_slice-all_insides.ensures.value) (c.in_ok-insides.ensures leaves texts bytes c.requires.parts) in
    let some = some_items plains (λ (none : length plains ≡ 0). let e = sym c.is_empty.ensures ∙ c.if-is_empty.false in grind (arith, nat_tests)) in
    if_fault_as (Fronts plains insides) (Prefixes leaves texts bytes bs) _ (λ p. plain_search leaves texts bytes bs plains insides are_plain are_inside some.0 some.1 some.2 (Some p)) c.met_members-2.ensures.crowded
