use Rattle.std.proofs.Common.{◌↔◌, List, [], map, sym, subst}
use Rattle.std.specs.Prelude.{None}
use Rattle.std.proofs.lemmas.Result.{err_from_is_err_and, IfErr-weaker}
use Rattle.tree_match.specs.Members.{Member}
use Rattle.node_match.specs.Sets.{Among}
use Rattle.node_match.proofs.Sets.{chain}
use Rattle.range_algebra.specs.Trees.{branch_of, branches_of, all_of}
use Rattle.range_algebra.specs.Meets.{Meets}
use Rattle.sorted_sets.specs.Sizes.{Each}
use Rattle.range_algebra.specs.Conditions.{AreBoundIn}
use Rattle.range_algebra.specs.Shown.{IsShownOfSome}
use Rattle.range_algebra.specs.Crowds.{Prefixes}
use Rattle.member_join.specs.Limits.{OneSet}
use Rattle.range_algebra.proofs.Gathering.{meets_chosen, if_ok_both}
use Rattle.member_join.proofs.Limits.{fault_first, fault_next, fault_more}
use Rattle.range_algebra.proofs.Placed.{chosen_bound}
use Rattle.range_algebra.proofs.all.all_members.Goals as goal

pub choices-requires : goal.choices-requires
choices-requires c = record { parts = c.requires.parts }

pub shown_of-requires : goal.shown_of-requires
shown_of-requires c =
    let P : List Member → Type 0 = Each (AreBoundIn c.args.scene.view.now.bytes) in
    record {
      parts = c.requires.parts;
      placed = subst P (sym c.as_slice.ensures.value) (λ m h. chosen_bound c.args.scene.leaves.now c.args.scene.rx.now c.args.scene.view.now.bytes c.requires.placed (branches_of (map branch_of c.args.children.now)) m ((c.in_ok-chosen.ensures.exact m).0 h));
    }

pub returns-in_err-chosen-clause-crowded : goal.returns-in_err-chosen-clause-crowded
returns-in_err-chosen-clause-crowded c =
    let p = err_from_is_err_and c.from_residual.result c.from_residual.ensures.1 in
    rw (p.1, p.2) (fault_first (Prefixes c.args.scene.leaves.now c.args.scene.rx.now c.args.scene.view.now.bytes (branches_of (map branch_of c.args.children.now))) (OneSet [] (Meets c.args.scene.leaves.now c.args.scene.rx.now c.args.scene.view.now.bytes (all_of (branches_of (map branch_of c.args.children.now))) None)) c.in_err-chosen.field-0.0 c.in_err-chosen.ensures.crowded)

pub returns-in_err-members-clause-crowded : goal.returns-in_err-members-clause-crowded
returns-in_err-members-clause-crowded c =
    let meets = meets_chosen c.args.scene.leaves.now c.args.scene.rx.now c.args.scene.view.now.bytes (branches_of (map branch_of c.args.children.now)) _ _ c.as_slice.ensures.value c.in_ok-chosen.ensures.exact in
    let p = err_from_is_err_and c.from_residual-in_err-members.result c.from_residual-in_err-members.ensures.1 in
    rw (p.1, p.2) (fault_next (Prefixes c.args.scene.leaves.now c.args.scene.rx.now c.args.scene.view.now.bytes (branches_of (map branch_of c.args.children.now))) (OneSet [] (Meets c.args.scene.leaves.now c.args.scene.rx.now c.args.scene.view.now.bytes (all_of (branches_of (map branch_of c.args.children.now))) None)) c.in_err-members.field-0.0 c.in_ok-chosen.ensures.few (fault_more [] _ _ (λ m a. (meets m).0 a) c.in_err-members.field-0.0 c.in_err-members.ensures.crowded))

pub returns-clause-exact : goal.returns-clause-exact
returns-clause-exact c =
    let meets = meets_chosen c.args.scene.leaves.now c.args.scene.rx.now c.args.scene.view.now.bytes (branches_of (map branch_of c.args.children.now)) _ _ c.as_slice.ensures.value c.in_ok-chosen.ensures.exact in
    if_ok_both _ _ _ c.gathered.result c.gathered.ensures.ordered c.gathered.ensures.same (λ v up same. record { exact = λ m. chain _ _ _ (same m) (chain _ _ _ (c.in_ok-members.ensures.exact m) (meets m)); ordered = up })

pub returns-clause-few : goal.returns-clause-few
returns-clause-few c =
    let meets = meets_chosen c.args.scene.leaves.now c.args.scene.rx.now c.args.scene.view.now.bytes (branches_of (map branch_of c.args.children.now)) _ _ c.as_slice.ensures.value c.in_ok-chosen.ensures.exact in
    if_ok_both _ _ _ c.gathered.result c.gathered.ensures.few c.gathered.ensures.same (λ v few same. (c.in_ok-chosen.ensures.few, record { items = v.items; whole = λ m s. (same m).1 ((c.in_ok-members.ensures.exact m).1 ((meets m).1 s)); few = few }))

pub returns-clause-crowded : goal.returns-clause-crowded
returns-clause-crowded c =
    let meets = meets_chosen c.args.scene.leaves.now c.args.scene.rx.now c.args.scene.view.now.bytes (branches_of (map branch_of c.args.children.now)) _ _ c.as_slice.ensures.value c.in_ok-chosen.ensures.exact in
    IfErr-weaker c.gathered.result _ _ (λ e h. fault_next (Prefixes c.args.scene.leaves.now c.args.scene.rx.now c.args.scene.view.now.bytes (branches_of (map branch_of c.args.children.now))) (OneSet [] (Meets c.args.scene.leaves.now c.args.scene.rx.now c.args.scene.view.now.bytes (all_of (branches_of (map branch_of c.args.children.now))) None)) e c.in_ok-chosen.ensures.few (fault_more [] _ _ (λ m a. (meets m).0 ((c.in_ok-members.ensures.exact m).0 a)) e h)) c.gathered.ensures.crowded
