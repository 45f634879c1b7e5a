use Rattle.std.proofs.Common.{List, map, ap, refl, sym, ◌∙◌, subst}
use Rattle.std.specs.Prelude.{Vec, None, Some}
use Rattle.std.specs.declared.alloc.Global.{Global}
use Rattle.std.proofs.lemmas.Result.{err_from_is_err_and, IfOk-at_ok}
use Rattle.rule_form.specs.declared.formula.Child.{Child}
use Rattle.tree_match.specs.Members.{Member}
use Rattle.range_algebra.specs.declared.part.Part.{Part}
use Rattle.range_algebra.specs.declared.part.Part.TheVariants as parts
use Rattle.range_algebra.specs.Trees.{tree_of, trees_of, branch_of, branches_of, leaf, regex, some_of, all_of, positive, inside, without, outside, without_regex}
use Rattle.range_algebra.specs.Parts.{has_operands, AreSetsOf, IsTakenAway}
use Rattle.range_algebra.specs.Crowds.{Over, OverTrees, OverBranch, OverBranches}
use Rattle.range_algebra.proofs.Layers.{tree_leaf, tree_regex, branch_positive, branch_inside, branch_not, branch_notinside, branch_notregex, branch_metapattern}
use Rattle.member_join.proofs.Limits.{fault_out, fault_as}
use Rattle.range_algebra.proofs.Children.{OverEach, fault_in, walk_start, walk_step, walk_fault, walk_end, over_trees, over_branches, tree_sets, branch_parts, branch_taken, InTree, InBranch, IsTreeSet, IsBranchPart, IsBranchTaken}
use Rattle.range_algebra.proofs.Formulas.{tree_is_any, tree_is_all, not_bare, has_one, none_there, set_by, over_by, fault_by, over_at, some_child_fault, all_child_fault, some_set, some_over, some_fault, all_over, all_fault, branch_part, branch_over, branch_fault, asked_part, asked_over, asked_fault, bare_part, bare_over, no_formula, part_taken}
use Rattle.range_algebra.proofs.evaluate.+evaluate.Goals as goal

pub asked-returns-in_default : goal.asked-returns-in_default
asked-returns-in_default t c = record { exact = λ name. (c.in_ok-members_of.ensures.exact, not_bare _ c.in_default.not-All); few = c.in_ok-members_of.ensures.few; crowded = tt }

pub asked-returns-then-not-is_bare-clause-exact : goal.asked-returns-then-not-is_bare-clause-exact
asked-returns-then-not-is_bare-clause-exact t c = λ name. (c.in_ok-members_of-2.ensures.exact, has_one _ _ _ (tree_is_all _ _ _ c.in-All.is c.as_slice.ensures) c.is_bare.ensures c.if-not-is_bare.true)

pub asked-returns-in_err-taken_away-clause-crowded : goal.asked-returns-in_err-taken_away-clause-crowded
asked-returns-in_err-taken_away-clause-crowded t c =
    let p = err_from_is_err_and c.from_residual-in_err-taken_away.result c.from_residual-in_err-taken_away.ensures.1 in
    fault_out (Over c.args.scene.leaves.now c.args.scene.rx.now c.args.scene.view.now.bytes (tree_of c.args.formula.now)) _ _ _ p.1 p.2 (all_child_fault c.args.scene.leaves.now c.args.scene.rx.now c.args.scene.view.now.bytes _ _ (tree_is_all _ _ _ c.in-All.is c.as_slice-2.ensures) _ c.in_err-taken_away.ensures.crowded)

pub asked-returns-clause-exact : goal.asked-returns-clause-exact
asked-returns-clause-exact t c =
    let none = ap (λ (cs : List Child). has_operands (branches_of (map branch_of cs))) (c.as_slice-2.ensures ∙ sym c.as_slice.ensures) ∙ none_there _ _ c.is_bare.ensures c.if-not-is_bare.false in
    bare_part c.args.scene.leaves.now c.args.scene.rx.now c.args.scene.view.now.bytes _ _ (tree_is_all _ _ _ c.in-All.is c.as_slice-2.ensures) none _ c.in_ok-taken_away.ensures.exact

pub asked-returns-clause-few : goal.asked-returns-clause-few
asked-returns-clause-few t c =
    let none = ap (λ (cs : List Child). has_operands (branches_of (map branch_of cs))) (c.as_slice-2.ensures ∙ sym c.as_slice.ensures) ∙ none_there _ _ c.is_bare.ensures c.if-not-is_bare.false in
    over_at c.args.scene.leaves.now c.args.scene.rx.now c.args.scene.view.now.bytes _ _ (tree_is_all _ _ _ c.in-All.is c.as_slice-2.ensures) (bare_over c.args.scene.leaves.now c.args.scene.rx.now c.args.scene.view.now.bytes _ none c.in_ok-taken_away.ensures.few)

pub members_of-returns-in_err-sets-in-Any-clause-crowded : goal.members_of-returns-in_err-sets-in-Any-clause-crowded
members_of-returns-in_err-sets-in-Any-clause-crowded t c =
    let p = err_from_is_err_and c.from_residual.result c.from_residual.ensures.1 in
    fault_out (Over c.args.scene.leaves.now c.args.scene.rx.now c.args.scene.view.now.bytes (tree_of c.args.formula.now)) _ _ _ p.1 p.2 (some_child_fault c.args.scene.leaves.now c.args.scene.rx.now c.args.scene.view.now.bytes _ _ (tree_is_any _ _ _ c.in-Any.is c.as_slice.ensures) _ c.in_err-sets-in-Any.ensures.crowded)

pub members_of-returns-in_err-parts-in-All-clause-crowded : goal.members_of-returns-in_err-parts-in-All-clause-crowded
members_of-returns-in_err-parts-in-All-clause-crowded t c =
    let p = err_from_is_err_and c.from_residual-in_err-parts-in-All.result c.from_residual-in_err-parts-in-All.ensures.1 in
    fault_out (Over c.args.scene.leaves.now c.args.scene.rx.now c.args.scene.view.now.bytes (tree_of c.args.formula.now)) _ _ _ p.1 p.2 (all_child_fault c.args.scene.leaves.now c.args.scene.rx.now c.args.scene.view.now.bytes _ _ (tree_is_all _ _ _ c.in-All.is c.as_slice-in-All.ensures) _ c.in_err-parts-in-All.ensures.crowded)

pub members_of-returns-in-Leaf-clause-exact : goal.members_of-returns-in-Leaf-clause-exact
members_of-returns-in-Leaf-clause-exact t c = set_by c.args.scene.leaves.now c.args.scene.rx.now c.args.scene.view.now.bytes _ (leaf _) (ap tree_of c.in-Leaf.is ∙ tree_leaf _) _ c.leaf_members.ensures.exact

pub members_of-returns-in-Leaf-clause-few : goal.members_of-returns-in-Leaf-clause-few
members_of-returns-in-Leaf-clause-few t c = over_by c.args.scene.leaves.now c.args.scene.rx.now c.args.scene.view.now.bytes _ (leaf _) (ap tree_of c.in-Leaf.is ∙ tree_leaf _) _ c.leaf_members.ensures.few

pub members_of-returns-in-Leaf-clause-crowded : goal.members_of-returns-in-Leaf-clause-crowded
members_of-returns-in-Leaf-clause-crowded t c = fault_by c.args.scene.leaves.now c.args.scene.rx.now c.args.scene.view.now.bytes _ (leaf _) (ap tree_of c.in-Leaf.is ∙ tree_leaf _) _ c.leaf_members.ensures.crowded

pub part_of-returns-in_err-members_of-in-Positive-clause-crowded : goal.part_of-returns-in_err-members_of-in-Positive-clause-crowded
part_of-returns-in_err-members_of-in-Positive-clause-crowded t c =
    let p = err_from_is_err_and c.from_residual.result c.from_residual.ensures.1 in
    fault_out (OverBranch c.args.scene.leaves.now c.args.scene.rx.now c.args.scene.view.now.bytes (branch_of c.args.child.now)) _ _ _ p.1 p.2 (branch_fault c.args.scene.leaves.now c.args.scene.rx.now c.args.scene.view.now.bytes _ (positive _) (ap branch_of c.in-Positive.is ∙ branch_positive _) _ c.in_err-members_of-in-Positive.ensures.crowded)

pub part_of-returns-in_ok-members_of-in-Positive-clause-exact : goal.part_of-returns-in_ok-members_of-in-Positive-clause-exact
part_of-returns-in_ok-members_of-in-Positive-clause-exact t c = branch_part c.args.scene.leaves.now c.args.scene.rx.now c.args.scene.view.now.bytes _ (positive _) (ap branch_of c.in-Positive.is ∙ branch_positive _) (parts.Members c.in_ok-members_of-in-Positive.field-0) c.in_ok-members_of-in-Positive.ensures.exact

pub part_of-returns-in_ok-members_of-in-Positive-clause-few : goal.part_of-returns-in_ok-members_of-in-Positive-clause-few
part_of-returns-in_ok-members_of-in-Positive-clause-few t c = branch_over c.args.scene.leaves.now c.args.scene.rx.now c.args.scene.view.now.bytes _ (positive _) (ap branch_of c.in-Positive.is ∙ branch_positive _) c.in_ok-members_of-in-Positive.ensures.few

pub part_of-returns-in_err-members_of-in-Inside-clause-crowded : goal.part_of-returns-in_err-members_of-in-Inside-clause-crowded
part_of-returns-in_err-members_of-in-Inside-clause-crowded t c =
    let p = err_from_is_err_and c.from_residual-in_err-members_of-in-Inside.result c.from_residual-in_err-members_of-in-Inside.ensures.1 in
    fault_out (OverBranch c.args.scene.leaves.now c.args.scene.rx.now c.args.scene.view.now.bytes (branch_of c.args.child.now)) _ _ _ p.1 p.2 (branch_fault c.args.scene.leaves.now c.args.scene.rx.now c.args.scene.view.now.bytes _ (inside _) (ap branch_of c.in-Inside.is ∙ branch_inside _) _ c.in_err-members_of-in-Inside.ensures.crowded)

pub part_of-returns-in_ok-members_of-in-Inside-clause-exact : goal.part_of-returns-in_ok-members_of-in-Inside-clause-exact
part_of-returns-in_ok-members_of-in-Inside-clause-exact t c = branch_part c.args.scene.leaves.now c.args.scene.rx.now c.args.scene.view.now.bytes _ (inside _) (ap branch_of c.in-Inside.is ∙ branch_inside _) (parts.Members c.in_ok-members_of-in-Inside.field-0) c.in_ok-members_of-in-Inside.ensures.exact

pub part_of-returns-in_ok-members_of-in-Inside-clause-few : goal.part_of-returns-in_ok-members_of-in-Inside-clause-few
part_of-returns-in_ok-members_of-in-Inside-clause-few t c = branch_over c.args.scene.leaves.now c.args.scene.rx.now c.args.scene.view.now.bytes _ (inside _) (ap branch_of c.in-Inside.is ∙ branch_inside _) c.in_ok-members_of-in-Inside.ensures.few

pub part_of-returns-in_err-members_of-in-Not-clause-crowded : goal.part_of-returns-in_err-members_of-in-Not-clause-crowded
part_of-returns-in_err-members_of-in-Not-clause-crowded t c =
    let p = err_from_is_err_and c.from_residual-in_err-members_of-in-Not.result c.from_residual-in_err-members_of-in-Not.ensures.1 in
    fault_out (OverBranch c.args.scene.leaves.now c.args.scene.rx.now c.args.scene.view.now.bytes (branch_of c.args.child.now)) _ _ _ p.1 p.2 (branch_fault c.args.scene.leaves.now c.args.scene.rx.now c.args.scene.view.now.bytes _ (without _) (ap branch_of c.in-Not.is ∙ branch_not _) _ c.in_err-members_of-in-Not.ensures.crowded)

pub part_of-returns-in_ok-members_of-in-Not-clause-exact : goal.part_of-returns-in_ok-members_of-in-Not-clause-exact
part_of-returns-in_ok-members_of-in-Not-clause-exact t c = branch_part c.args.scene.leaves.now c.args.scene.rx.now c.args.scene.view.now.bytes _ (without _) (ap branch_of c.in-Not.is ∙ branch_not _) (parts.Members c.in_ok-members_of-in-Not.field-0) c.in_ok-members_of-in-Not.ensures.exact

pub part_of-returns-in_ok-members_of-in-Not-clause-few : goal.part_of-returns-in_ok-members_of-in-Not-clause-few
part_of-returns-in_ok-members_of-in-Not-clause-few t c = branch_over c.args.scene.leaves.now c.args.scene.rx.now c.args.scene.view.now.bytes _ (without _) (ap branch_of c.in-Not.is ∙ branch_not _) c.in_ok-members_of-in-Not.ensures.few

pub part_of-returns-in_err-members_of-in-NotInside-clause-crowded : goal.part_of-returns-in_err-members_of-in-NotInside-clause-crowded
part_of-returns-in_err-members_of-in-NotInside-clause-crowded t c =
    let p = err_from_is_err_and c.from_residual-in_err-members_of-in-NotInside.result c.from_residual-in_err-members_of-in-NotInside.ensures.1 in
    fault_out (OverBranch c.args.scene.leaves.now c.args.scene.rx.now c.args.scene.view.now.bytes (branch_of c.args.child.now)) _ _ _ p.1 p.2 (branch_fault c.args.scene.leaves.now c.args.scene.rx.now c.args.scene.view.now.bytes _ (outside _) (ap branch_of c.in-NotInside.is ∙ branch_notinside _) _ c.in_err-members_of-in-NotInside.ensures.crowded)

pub part_of-returns-in_ok-members_of-in-NotInside-clause-exact : goal.part_of-returns-in_ok-members_of-in-NotInside-clause-exact
part_of-returns-in_ok-members_of-in-NotInside-clause-exact t c = branch_part c.args.scene.leaves.now c.args.scene.rx.now c.args.scene.view.now.bytes _ (outside _) (ap branch_of c.in-NotInside.is ∙ branch_notinside _) (parts.Members c.in_ok-members_of-in-NotInside.field-0) c.in_ok-members_of-in-NotInside.ensures.exact

pub part_of-returns-in_ok-members_of-in-NotInside-clause-few : goal.part_of-returns-in_ok-members_of-in-NotInside-clause-few
part_of-returns-in_ok-members_of-in-NotInside-clause-few t c = branch_over c.args.scene.leaves.now c.args.scene.rx.now c.args.scene.view.now.bytes _ (outside _) (ap branch_of c.in-NotInside.is ∙ branch_notinside _) c.in_ok-members_of-in-NotInside.ensures.few

pub part_of-returns-in_ok-matches_of-in-NotRegex-clause-exact : goal.part_of-returns-in_ok-matches_of-in-NotRegex-clause-exact
part_of-returns-in_ok-matches_of-in-NotRegex-clause-exact t c = branch_part c.args.scene.leaves.now c.args.scene.rx.now c.args.scene.view.now.bytes _ (without_regex _) (ap branch_of c.in-NotRegex.is ∙ branch_notregex _) (parts.Members c.in_ok-matches_of-in-NotRegex.field-0) c.in_ok-matches_of-in-NotRegex.ensures

pub part_of-returns-in_ok-matches_of-in-NotRegex-clause-few : goal.part_of-returns-in_ok-matches_of-in-NotRegex-clause-few
part_of-returns-in_ok-matches_of-in-NotRegex-clause-few t c = branch_over c.args.scene.leaves.now c.args.scene.rx.now c.args.scene.view.now.bytes _ (without_regex _) (ap branch_of c.in-NotRegex.is ∙ branch_notregex _) refl

pub part_of-returns-in-MetaPattern-clause-exact : goal.part_of-returns-in-MetaPattern-clause-exact
part_of-returns-in-MetaPattern-clause-exact t c = asked_part c.args.scene.leaves.now c.args.scene.rx.now c.args.scene.view.now.bytes _ _ _ (ap branch_of c.in-MetaPattern.is ∙ branch_metapattern _ _) _ c.asked.ensures.exact

pub part_of-returns-in-MetaPattern-clause-few : goal.part_of-returns-in-MetaPattern-clause-few
part_of-returns-in-MetaPattern-clause-few t c = asked_over c.args.scene.leaves.now c.args.scene.rx.now c.args.scene.view.now.bytes _ _ _ (ap branch_of c.in-MetaPattern.is ∙ branch_metapattern _ _) _ c.asked.ensures.few

pub part_of-returns-in-MetaPattern-clause-crowded : goal.part_of-returns-in-MetaPattern-clause-crowded
part_of-returns-in-MetaPattern-clause-crowded t c = asked_fault c.args.scene.leaves.now c.args.scene.rx.now c.args.scene.view.now.bytes _ _ _ (ap branch_of c.in-MetaPattern.is ∙ branch_metapattern _ _) _ c.asked.ensures.crowded

pub part_of-returns-in_default-clause-exact : goal.part_of-returns-in_default-clause-exact
part_of-returns-in_default-clause-exact t c = (no_formula c.args.scene.leaves.now c.args.scene.rx.now c.args.scene.view.now.bytes _ c.in_default.not-Positive c.in_default.not-Inside c.in_default.not-Not c.in_default.not-NotInside c.in_default.not-NotRegex c.in_default.not-MetaPattern).0

pub part_of-returns-in_default-clause-few : goal.part_of-returns-in_default-clause-few
part_of-returns-in_default-clause-few t c = (no_formula c.args.scene.leaves.now c.args.scene.rx.now c.args.scene.view.now.bytes _ c.in_default.not-Positive c.in_default.not-Inside c.in_default.not-Not c.in_default.not-NotInside c.in_default.not-NotRegex c.in_default.not-MetaPattern).1

pub members_of-returns-in-Regex-clause-exact : goal.members_of-returns-in-Regex-clause-exact
members_of-returns-in-Regex-clause-exact t c = set_by c.args.scene.leaves.now c.args.scene.rx.now c.args.scene.view.now.bytes _ (regex _) (ap tree_of c.in-Regex.is ∙ tree_regex _) _ c.regex_members.ensures.exact

pub members_of-returns-in-Regex-clause-few : goal.members_of-returns-in-Regex-clause-few
members_of-returns-in-Regex-clause-few t c = over_by c.args.scene.leaves.now c.args.scene.rx.now c.args.scene.view.now.bytes _ (regex _) (ap tree_of c.in-Regex.is ∙ tree_regex _) _ c.regex_members.ensures.few

pub members_of-returns-in-Regex-clause-crowded : goal.members_of-returns-in-Regex-clause-crowded
members_of-returns-in-Regex-clause-crowded t c = fault_by c.args.scene.leaves.now c.args.scene.rx.now c.args.scene.view.now.bytes _ (regex _) (ap tree_of c.in-Regex.is ∙ tree_regex _) _ c.regex_members.ensures.crowded

pub members_of-returns-in_ok-sets-in-Any-clause-exact : goal.members_of-returns-in_ok-sets-in-Any-clause-exact
members_of-returns-in_ok-sets-in-Any-clause-exact t c =
    let ts = trees_of (map tree_of c.as_slice.result.now) in
    let P : List (Vec Member Global) → Type 0 = AreSetsOf c.args.scene.leaves.now c.args.scene.rx.now c.args.scene.view.now.bytes ts in
    let each = subst P (sym c.as_slice-in-Any.ensures.value) c.in_ok-sets-in-Any.ensures.exact in
    let is = tree_is_any _ _ _ c.in-Any.is c.as_slice.ensures in
    set_by c.args.scene.leaves.now c.args.scene.rx.now c.args.scene.view.now.bytes _ (some_of ts) is c.union.result (some_set c.args.scene.leaves.now c.args.scene.rx.now c.args.scene.view.now.bytes ts c.as_slice-in-Any.result.now each c.in_ok-sets-in-Any.ensures.few c.union.result c.union.ensures.ordered c.union.ensures.exact)

pub members_of-returns-in_ok-sets-in-Any-clause-few : goal.members_of-returns-in_ok-sets-in-Any-clause-few
members_of-returns-in_ok-sets-in-Any-clause-few t c =
    let ts = trees_of (map tree_of c.as_slice.result.now) in
    let P : List (Vec Member Global) → Type 0 = AreSetsOf c.args.scene.leaves.now c.args.scene.rx.now c.args.scene.view.now.bytes ts in
    let each = subst P (sym c.as_slice-in-Any.ensures.value) c.in_ok-sets-in-Any.ensures.exact in
    let is = tree_is_any _ _ _ c.in-Any.is c.as_slice.ensures in
    over_by c.args.scene.leaves.now c.args.scene.rx.now c.args.scene.view.now.bytes _ (some_of ts) is c.union.result (some_over c.args.scene.leaves.now c.args.scene.rx.now c.args.scene.view.now.bytes ts c.as_slice-in-Any.result.now each c.in_ok-sets-in-Any.ensures.few c.union.result c.union.ensures.exact c.union.ensures.few)

pub members_of-returns-in_ok-sets-in-Any-clause-crowded : goal.members_of-returns-in_ok-sets-in-Any-clause-crowded
members_of-returns-in_ok-sets-in-Any-clause-crowded t c =
    let ts = trees_of (map tree_of c.as_slice.result.now) in
    let P : List (Vec Member Global) → Type 0 = AreSetsOf c.args.scene.leaves.now c.args.scene.rx.now c.args.scene.view.now.bytes ts in
    let each = subst P (sym c.as_slice-in-Any.ensures.value) c.in_ok-sets-in-Any.ensures.exact in
    let is = tree_is_any _ _ _ c.in-Any.is c.as_slice.ensures in
    fault_by c.args.scene.leaves.now c.args.scene.rx.now c.args.scene.view.now.bytes _ (some_of ts) is c.union.result (some_fault c.args.scene.leaves.now c.args.scene.rx.now c.args.scene.view.now.bytes ts c.as_slice-in-Any.result.now each c.in_ok-sets-in-Any.ensures.few c.union.result c.union.ensures.crowded)

pub members_of-returns-in_ok-parts-in-All-clause-exact : goal.members_of-returns-in_ok-parts-in-All-clause-exact
members_of-returns-in_ok-parts-in-All-clause-exact t c = set_by c.args.scene.leaves.now c.args.scene.rx.now c.args.scene.view.now.bytes _ _ (tree_is_all _ _ _ c.in-All.is c.as_slice-in-All-2.ensures) c.all_members.result c.all_members.ensures.exact

pub members_of-returns-in_ok-parts-in-All-clause-few : goal.members_of-returns-in_ok-parts-in-All-clause-few
members_of-returns-in_ok-parts-in-All-clause-few t c =
    let bs = branches_of (map branch_of c.as_slice-in-All-2.result.now) in
    let P : List Child → Type 0 = λ cs. OverBranches c.args.scene.leaves.now c.args.scene.rx.now c.args.scene.view.now.bytes 0 (branches_of (map branch_of cs)) None in
    let none = subst P (c.as_slice-in-All.ensures ∙ sym c.as_slice-in-All-2.ensures) c.in_ok-parts-in-All.ensures.few in
    let is = tree_is_all _ _ _ c.in-All.is c.as_slice-in-All-2.ensures in
    over_by c.args.scene.leaves.now c.args.scene.rx.now c.args.scene.view.now.bytes _ (all_of bs) is c.all_members.result (all_over c.args.scene.leaves.now c.args.scene.rx.now c.args.scene.view.now.bytes bs none c.all_members.result c.all_members.ensures.few)

pub members_of-returns-in_ok-parts-in-All-clause-crowded : goal.members_of-returns-in_ok-parts-in-All-clause-crowded
members_of-returns-in_ok-parts-in-All-clause-crowded t c =
    let bs = branches_of (map branch_of c.as_slice-in-All-2.result.now) in
    let P : List Child → Type 0 = λ cs. OverBranches c.args.scene.leaves.now c.args.scene.rx.now c.args.scene.view.now.bytes 0 (branches_of (map branch_of cs)) None in
    let none = subst P (c.as_slice-in-All.ensures ∙ sym c.as_slice-in-All-2.ensures) c.in_ok-parts-in-All.ensures.few in
    let is = tree_is_all _ _ _ c.in-All.is c.as_slice-in-All-2.ensures in
    fault_by c.args.scene.leaves.now c.args.scene.rx.now c.args.scene.view.now.bytes _ (all_of bs) is c.all_members.result (all_fault c.args.scene.leaves.now c.args.scene.rx.now c.args.scene.view.now.bytes bs none c.all_members.result c.all_members.ensures.crowded)

pub members_of_each-loop-i-init : goal.members_of_each-loop-i-init
members_of_each-loop-i-init t c = walk_start (InTree c.args.scene.leaves.now c.args.scene.rx.now c.args.scene.view.now.bytes) (IsTreeSet c.args.scene.leaves.now c.args.scene.rx.now c.args.scene.view.now.bytes) c.args.formulas.now _ c.new-sets.ensures.items

pub members_of_each-loop-i-preserved : goal.members_of_each-loop-i-preserved
members_of_each-loop-i-preserved t c =
    walk_step (InTree c.args.scene.leaves.now c.args.scene.rx.now c.args.scene.view.now.bytes) (IsTreeSet c.args.scene.leaves.now c.args.scene.rx.now c.args.scene.view.now.bytes) c.args.formulas.now c.loop-i.i c.loop-i.sets.items c.loop-i.invariant c.index-formulas-i.result c.in_ok-inside.field-0 _ c.loop-i-test.true c.index-formulas-i.is
    (IfOk-at_ok (IsTreeSet c.args.scene.leaves.now c.args.scene.rx.now c.args.scene.view.now.bytes c.index-formulas-i.result) c.in_ok-inside.ensures.same c.members_of.ensures.exact)
    (IfOk-at_ok (λ (v : Vec Member Global). InTree c.args.scene.leaves.now c.args.scene.rx.now c.args.scene.view.now.bytes c.index-formulas-i.result None) c.in_ok-inside.ensures.same c.members_of.ensures.few) c.in_ok-push.ensures.items

pub members_of_each-returns-clause-exact : goal.members_of_each-returns-clause-exact
members_of_each-returns-clause-exact t c = tree_sets c.args.scene.leaves.now c.args.scene.rx.now c.args.scene.view.now.bytes c.args.formulas.now _ (walk_end (InTree c.args.scene.leaves.now c.args.scene.rx.now c.args.scene.view.now.bytes) (IsTreeSet c.args.scene.leaves.now c.args.scene.rx.now c.args.scene.view.now.bytes) c.args.formulas.now c.loop-i.i _ c.loop-i.invariant c.loop-i-test.false).0

pub members_of_each-returns-clause-few : goal.members_of_each-returns-clause-few
members_of_each-returns-clause-few t c = over_trees c.args.scene.leaves.now c.args.scene.rx.now c.args.scene.view.now.bytes 0 c.args.formulas.now None (walk_end (InTree c.args.scene.leaves.now c.args.scene.rx.now c.args.scene.view.now.bytes) (IsTreeSet c.args.scene.leaves.now c.args.scene.rx.now c.args.scene.view.now.bytes) c.args.formulas.now c.loop-i.i _ c.loop-i.invariant c.loop-i-test.false).1

pub members_of_each-returns-in_err-inside-clause-crowded : goal.members_of_each-returns-in_err-inside-clause-crowded
members_of_each-returns-in_err-inside-clause-crowded t c =
    let p = err_from_is_err_and c.from_residual.result c.from_residual.ensures.1 in
    fault_out (OverTrees c.args.scene.leaves.now c.args.scene.rx.now c.args.scene.view.now.bytes 0 (trees_of (map tree_of c.args.formulas.now))) _ _ _ p.1 p.2
    (fault_as (OverEach (InTree c.args.scene.leaves.now c.args.scene.rx.now c.args.scene.view.now.bytes) 0 c.args.formulas.now) (OverTrees c.args.scene.leaves.now c.args.scene.rx.now c.args.scene.view.now.bytes 0 (trees_of (map tree_of c.args.formulas.now))) (λ p. over_trees c.args.scene.leaves.now c.args.scene.rx.now c.args.scene.view.now.bytes 0 c.args.formulas.now (Some p)) c.in_err-inside.field-0.0
    (walk_fault (InTree c.args.scene.leaves.now c.args.scene.rx.now c.args.scene.view.now.bytes) (IsTreeSet c.args.scene.leaves.now c.args.scene.rx.now c.args.scene.view.now.bytes) c.args.formulas.now c.loop-i.i c.loop-i.sets.items c.loop-i.invariant c.index-formulas-i.result c.in_err-inside.field-0.0 c.loop-i-test.true c.index-formulas-i.is
    (fault_in c.loop-i.i (InTree c.args.scene.leaves.now c.args.scene.rx.now c.args.scene.view.now.bytes c.index-formulas-i.result) c.members_of.result c.in_err-inside.field-0.0 c.in_err-inside.ensures.named c.members_of.ensures.crowded)))

pub parts_of_each-loop-i-init : goal.parts_of_each-loop-i-init
parts_of_each-loop-i-init t c = walk_start (InBranch c.args.scene.leaves.now c.args.scene.rx.now c.args.scene.view.now.bytes) (IsBranchPart c.args.scene.leaves.now c.args.scene.rx.now c.args.scene.view.now.bytes) c.args.children.now _ c.new-parts.ensures.items

pub parts_of_each-loop-i-preserved : goal.parts_of_each-loop-i-preserved
parts_of_each-loop-i-preserved t c =
    walk_step (InBranch c.args.scene.leaves.now c.args.scene.rx.now c.args.scene.view.now.bytes) (IsBranchPart c.args.scene.leaves.now c.args.scene.rx.now c.args.scene.view.now.bytes) c.args.children.now c.loop-i.i c.loop-i.parts.items c.loop-i.invariant c.index-children-i.result c.in_ok-inside.field-0 _ c.loop-i-test.true c.index-children-i.is
    (IfOk-at_ok (IsBranchPart c.args.scene.leaves.now c.args.scene.rx.now c.args.scene.view.now.bytes c.index-children-i.result) c.in_ok-inside.ensures.same c.part_of.ensures.exact)
    (IfOk-at_ok (λ (v : Part). InBranch c.args.scene.leaves.now c.args.scene.rx.now c.args.scene.view.now.bytes c.index-children-i.result None) c.in_ok-inside.ensures.same c.part_of.ensures.few) c.in_ok-push.ensures.items

pub parts_of_each-returns-clause-exact : goal.parts_of_each-returns-clause-exact
parts_of_each-returns-clause-exact t c = branch_parts c.args.scene.leaves.now c.args.scene.rx.now c.args.scene.view.now.bytes c.args.children.now _ (walk_end (InBranch c.args.scene.leaves.now c.args.scene.rx.now c.args.scene.view.now.bytes) (IsBranchPart c.args.scene.leaves.now c.args.scene.rx.now c.args.scene.view.now.bytes) c.args.children.now c.loop-i.i _ c.loop-i.invariant c.loop-i-test.false).0

pub parts_of_each-returns-clause-few : goal.parts_of_each-returns-clause-few
parts_of_each-returns-clause-few t c = over_branches c.args.scene.leaves.now c.args.scene.rx.now c.args.scene.view.now.bytes 0 c.args.children.now None (walk_end (InBranch c.args.scene.leaves.now c.args.scene.rx.now c.args.scene.view.now.bytes) (IsBranchPart c.args.scene.leaves.now c.args.scene.rx.now c.args.scene.view.now.bytes) c.args.children.now c.loop-i.i _ c.loop-i.invariant c.loop-i-test.false).1

pub parts_of_each-returns-in_err-inside-clause-crowded : goal.parts_of_each-returns-in_err-inside-clause-crowded
parts_of_each-returns-in_err-inside-clause-crowded t c =
    let p = err_from_is_err_and c.from_residual.result c.from_residual.ensures.1 in
    fault_out (OverBranches c.args.scene.leaves.now c.args.scene.rx.now c.args.scene.view.now.bytes 0 (branches_of (map branch_of c.args.children.now))) _ _ _ p.1 p.2
    (fault_as (OverEach (InBranch c.args.scene.leaves.now c.args.scene.rx.now c.args.scene.view.now.bytes) 0 c.args.children.now) (OverBranches c.args.scene.leaves.now c.args.scene.rx.now c.args.scene.view.now.bytes 0 (branches_of (map branch_of c.args.children.now))) (λ p. over_branches c.args.scene.leaves.now c.args.scene.rx.now c.args.scene.view.now.bytes 0 c.args.children.now (Some p)) c.in_err-inside.field-0.0
    (walk_fault (InBranch c.args.scene.leaves.now c.args.scene.rx.now c.args.scene.view.now.bytes) (IsBranchPart c.args.scene.leaves.now c.args.scene.rx.now c.args.scene.view.now.bytes) c.args.children.now c.loop-i.i c.loop-i.parts.items c.loop-i.invariant c.index-children-i.result c.in_err-inside.field-0.0 c.loop-i-test.true c.index-children-i.is
    (fault_in c.loop-i.i (InBranch c.args.scene.leaves.now c.args.scene.rx.now c.args.scene.view.now.bytes c.index-children-i.result) c.part_of.result c.in_err-inside.field-0.0 c.in_err-inside.ensures.named c.part_of.ensures.crowded)))

pub taken_away-loop-i-init : goal.taken_away-loop-i-init
taken_away-loop-i-init t c = walk_start (InBranch c.args.scene.leaves.now c.args.scene.rx.now c.args.scene.view.now.bytes) (IsBranchTaken c.args.scene.leaves.now c.args.scene.rx.now c.args.scene.view.now.bytes) c.args.children.now _ c.new-sets.ensures.items

pub taken_away-loop-i-preserved : goal.taken_away-loop-i-preserved
taken_away-loop-i-preserved t c =
    let P : List Member → Type 0 = IsTakenAway c.args.scene.leaves.now c.args.scene.rx.now c.args.scene.view.now.bytes (branch_of c.index-children-i.result) in
    walk_step (InBranch c.args.scene.leaves.now c.args.scene.rx.now c.args.scene.view.now.bytes) (IsBranchTaken c.args.scene.leaves.now c.args.scene.rx.now c.args.scene.view.now.bytes) c.args.children.now c.loop-i.i c.loop-i.sets.items c.loop-i.invariant c.index-children-i.result c.into_members.result _ c.loop-i-test.true c.index-children-i.is
    (subst P (sym c.into_members.ensures) (part_taken c.args.scene.leaves.now c.args.scene.rx.now c.args.scene.view.now.bytes (branch_of c.index-children-i.result) c.in_ok-part.part (IfOk-at_ok (IsBranchPart c.args.scene.leaves.now c.args.scene.rx.now c.args.scene.view.now.bytes c.index-children-i.result) c.in_ok-part.ensures.same c.part_of.ensures.exact)))
    (IfOk-at_ok (λ (v : Part). InBranch c.args.scene.leaves.now c.args.scene.rx.now c.args.scene.view.now.bytes c.index-children-i.result None) c.in_ok-part.ensures.same c.part_of.ensures.few) c.in_ok-push.ensures.items

pub taken_away-returns-clause-exact : goal.taken_away-returns-clause-exact
taken_away-returns-clause-exact t c = branch_taken c.args.scene.leaves.now c.args.scene.rx.now c.args.scene.view.now.bytes c.args.children.now _ (walk_end (InBranch c.args.scene.leaves.now c.args.scene.rx.now c.args.scene.view.now.bytes) (IsBranchTaken c.args.scene.leaves.now c.args.scene.rx.now c.args.scene.view.now.bytes) c.args.children.now c.loop-i.i _ c.loop-i.invariant c.loop-i-test.false).0

pub taken_away-returns-clause-few : goal.taken_away-returns-clause-few
taken_away-returns-clause-few t c = over_branches c.args.scene.leaves.now c.args.scene.rx.now c.args.scene.view.now.bytes 0 c.args.children.now None (walk_end (InBranch c.args.scene.leaves.now c.args.scene.rx.now c.args.scene.view.now.bytes) (IsBranchTaken c.args.scene.leaves.now c.args.scene.rx.now c.args.scene.view.now.bytes) c.args.children.now c.loop-i.i _ c.loop-i.invariant c.loop-i-test.false).1

pub taken_away-returns-in_err-part-clause-crowded : goal.taken_away-returns-in_err-part-clause-crowded
taken_away-returns-in_err-part-clause-crowded t c =
    let p = err_from_is_err_and c.from_residual.result c.from_residual.ensures.1 in
    fault_out (OverBranches c.args.scene.leaves.now c.args.scene.rx.now c.args.scene.view.now.bytes 0 (branches_of (map branch_of c.args.children.now))) _ _ _ p.1 p.2
    (fault_as (OverEach (InBranch c.args.scene.leaves.now c.args.scene.rx.now c.args.scene.view.now.bytes) 0 c.args.children.now) (OverBranches c.args.scene.leaves.now c.args.scene.rx.now c.args.scene.view.now.bytes 0 (branches_of (map branch_of c.args.children.now))) (λ p. over_branches c.args.scene.leaves.now c.args.scene.rx.now c.args.scene.view.now.bytes 0 c.args.children.now (Some p)) c.in_err-part.field-0.0
    (walk_fault (InBranch c.args.scene.leaves.now c.args.scene.rx.now c.args.scene.view.now.bytes) (IsBranchTaken c.args.scene.leaves.now c.args.scene.rx.now c.args.scene.view.now.bytes) c.args.children.now c.loop-i.i c.loop-i.sets.items c.loop-i.invariant c.index-children-i.result c.in_err-part.field-0.0 c.loop-i-test.true c.index-children-i.is
    (fault_in c.loop-i.i (InBranch c.args.scene.leaves.now c.args.scene.rx.now c.args.scene.view.now.bytes c.index-children-i.result) c.part_of.result c.in_err-part.field-0.0 c.in_err-part.ensures.named c.part_of.ensures.crowded)))
