use Rattle.std.proofs.Common.{ℕ, List, [], ◌∷◌, refl, sym, ◌∙◌, subst}
use Rattle.std.specs.Prelude.{All, None}
use Rattle.std.proofs.lemmas.Result.{err_from_is_err_and}
use Rattle.std.proofs.lemmas.List.Elements.{All-nil, All-append, All-cons}
use Rattle.tree_match.specs.Leaf.{IsWhole}
use Rattle.tree_match.specs.Members.{Member}
use Rattle.tree_match.specs.Placed.{IsPlaced}
use Rattle.range_algebra.specs.Trees.{tree_of}
use Rattle.range_algebra.specs.Meets.{Meets}
use Rattle.range_algebra.specs.Crowds.{InChild, Over, IsFault}
use Rattle.range_algebra.proofs.Children.{walk_start, walk_step, walk_end}
use Rattle.taint_judge.specs.Lists.{lent, OverFormulas}
use Rattle.taint_judge.proofs.Each.{InLent, IsLentSet, walked_fault, over_formulas, over_fault, are_each, fault_out}
use Rattle.taint_judge.proofs.members.members_of_each.Goals as goal

pub loop-number-init : goal.loop-number-init
loop-number-init c =
    let L = c.args.leaves.now in
    let T = c.args.rx.now in
    let B = c.args.view.now.bytes in
    let P : List (List Member) → Type 0 = All (All (λ m. IsPlaced B m)) in
    (refl, walk_start (InLent L T B) (IsLentSet L T B) c.args.formulas.now _ c.new-each.ensures.items, subst P (sym c.new-each.ensures.items) (All-nil (All (λ m. IsPlaced B m))))

pub returns-in_err-members_at-clause-crowded : goal.returns-in_err-members_at-clause-crowded
returns-in_err-members_at-clause-crowded c =
    let L = c.args.leaves.now in
    let T = c.args.rx.now in
    let B = c.args.view.now.bytes in
    let p = err_from_is_err_and c.from_residual.result c.from_residual.ensures.1 in
    let f = c.index-formulas-number.result in
    let P : List (List ℕ) → Type 0 = λ t. IsFault (InChild c.loop-number.number (Over L t B (tree_of f.now))) c.in_err-members_at.field-0.0 in
    fault_out (OverFormulas L T B (lent c.args.formulas.now)) _ _ _ p.1 p.2 (over_fault L T B c.args.formulas.now _ (walked_fault (InLent L T B) (IsLentSet L T B) c.args.formulas.now c.loop-number.number c.loop-number.each.items c.loop-number.invariant.1 f c.loop-number-test.true c.index-formulas-number.is _ (subst P c.loop-number.invariant.0 c.in_err-members_at.ensures.crowded)))

pub loop-number-preserved : goal.loop-number-preserved
loop-number-preserved c =
    let L = c.args.leaves.now in
    let T = c.args.rx.now in
    let B = c.args.view.now.bytes in
    let inv = c.loop-number.invariant in
    let f = c.index-formulas-number.result in
    let one = c.in_ok-members_at.ensures in
    let P : List (List ℕ) → Type 0 = λ t. IsWhole (Meets L t B (tree_of f.now) None) c.in_ok-members_at.field-0 in
    let Q : List (List ℕ) → Type 0 = λ t. Over L t B (tree_of f.now) None in
    let R : List (List Member) → Type 0 = All (All (λ m. IsPlaced B m)) in (
      one.same ∙ inv.0,
      walk_step (InLent L T B) (IsLentSet L T B) c.args.formulas.now c.loop-number.number c.loop-number.each.items inv.1 f c.in_ok-members_at.field-0 _ c.loop-number-test.true c.index-formulas-number.is (subst P inv.0 one.exact) (subst Q inv.0 one.few) c.in_ok-push.ensures.items,
      subst R (sym c.in_ok-push.ensures.items) (All-append (All (λ m. IsPlaced B m)) c.loop-number.each.items (c.in_ok-members_at.field-0 ∷ []) inv.2 (All-cons (All (λ m. IsPlaced B m)) c.in_ok-members_at.field-0 [] one.placed (All-nil (All (λ m. IsPlaced B m))))),
    )

pub returns-clause-exact : goal.returns-clause-exact
returns-clause-exact c =
    let L = c.args.leaves.now in
    let T = c.args.rx.now in
    let B = c.args.view.now.bytes in
    are_each L T B c.args.formulas.now _ (walk_end (InLent L T B) (IsLentSet L T B) c.args.formulas.now c.loop-number.number _ c.loop-number.invariant.1 c.loop-number-test.false).0

pub returns-clause-few : goal.returns-clause-few
returns-clause-few c =
    let L = c.args.leaves.now in
    let T = c.args.rx.now in
    let B = c.args.view.now.bytes in
    over_formulas L T B c.args.formulas.now None (walk_end (InLent L T B) (IsLentSet L T B) c.args.formulas.now c.loop-number.number _ c.loop-number.invariant.1 c.loop-number-test.false).1

pub returns-clause-placed : goal.returns-clause-placed
returns-clause-placed c = c.loop-number.invariant.2
