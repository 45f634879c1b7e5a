use Rattle.std.proofs.Common.{◌≡◌, List, [], refl, sym, ap, ◌∙◌, subst}
use Rattle.std.proofs.lemmas.List.Elements.{All-nil}
use Rattle.meta_bind.specs.declared.bound.Bound.{Bound}
use Rattle.meta_bind.specs.Places.{EndsLieIn}
use Rattle.range_algebra.specs.Conditions.{AreBoundIn}
use Rattle.range_algebra.proofs.Openings.{branches_left, none_left}
use Rattle.range_algebra.proofs.Allowing.{bare_answer, taken_within, taken_parted, taken_ordered, taken_says, refused, passed_on, all_passed}
use Rattle.range_algebra.proofs.condition.allows_bare.Goals as goal

pub returns-then-has_focus : goal.returns-then-has_focus
returns-then-has_focus c =
    bare_answer c.args.scene.leaves.now c.args.scene.rx.now c.args.scene.view.now.bytes _ c.args.range (c.args.range, []) _ c.requires.bare refl
    (λ e. absurd (cc), λ p. (let a = sym c.has_focus.ensures ∙ c.if-has_focus.true in let b = p.0 in cc))

pub loop-i-init : goal.loop-i-init
loop-i-init c = record { allowed = (λ x. x, λ x. x); sets = c.requires.sets }

pub bounds-sets-i : goal.bounds-sets-i
bounds-sets-i c = taken_within c.args.scene.leaves.now c.args.scene.rx.now c.args.scene.view.now.bytes _ _ _ c.loop-i-test.true c.index-children-i.is _ c.loop-i.invariant.sets

pub allows_by-requires : goal.allows_by-requires
allows_by-requires c = record {
  ordered = taken_ordered c.args.scene.leaves.now c.args.scene.rx.now c.args.scene.view.now.bytes _ _ _ (taken_parted c.args.scene.leaves.now c.args.scene.rx.now c.args.scene.view.now.bytes _ _ _ c.loop-i-test.true c.index-children-i.is _ c.index-sets-i.result c.loop-i.invariant.sets c.index-sets-i.is).0 c.as_slice.ensures.value;
  placed = (let P : List Bound → Type 0 = λ b. AreBoundIn c.args.scene.view.now.bytes (c.args.range, b) in subst P (sym c.new.ensures) (All-nil (λ (b : Bound). EndsLieIn c.args.scene.view.now.bytes b.span)));
}

pub returns-then-not-branch : goal.returns-then-not-branch
returns-then-not-branch c =
    let parted = taken_parted c.args.scene.leaves.now c.args.scene.rx.now c.args.scene.view.now.bytes _ _ _ c.loop-i-test.true c.index-children-i.is _ c.index-sets-i.result c.loop-i.invariant.sets c.index-sets-i.is in
    let says = taken_says c.args.scene.leaves.now c.args.scene.rx.now c.args.scene.view.now.bytes _ _ _ (c.args.range, c.new.result) _ c.new.ensures parted.0 c.as_slice.ensures.value c.in_ok-allows_by.ensures in
    bare_answer c.args.scene.leaves.now c.args.scene.rx.now c.args.scene.view.now.bytes _ c.args.range (c.args.range, c.new.result) _ c.requires.bare (ap (λ (b : List Bound). (c.args.range, b)) c.new.ensures)
    (λ e. absurd (cc), λ p. absurd (refused c.args.scene.leaves.now c.args.scene.rx.now c.args.scene.view.now.bytes _ _ _ _ _ _ c.loop-i.invariant.allowed (branches_left c.args.children.now c.loop-i.i c.index-children-i.result c.loop-i-test.true c.index-children-i.is) says c.if-not-branch.true p.1))

pub loop-i-preserved : goal.loop-i-preserved
loop-i-preserved c =
    let parted = taken_parted c.args.scene.leaves.now c.args.scene.rx.now c.args.scene.view.now.bytes _ _ _ c.loop-i-test.true c.index-children-i.is _ c.index-sets-i.result c.loop-i.invariant.sets c.index-sets-i.is in
    let says = taken_says c.args.scene.leaves.now c.args.scene.rx.now c.args.scene.view.now.bytes _ _ _ (c.args.range, c.new.result) _ c.new.ensures parted.0 c.as_slice.ensures.value c.in_ok-allows_by.ensures in
    record {
      allowed = passed_on c.args.scene.leaves.now c.args.scene.rx.now c.args.scene.view.now.bytes _ _ _ _ _ _ c.loop-i.invariant.allowed (branches_left c.args.children.now c.loop-i.i c.index-children-i.result c.loop-i-test.true c.index-children-i.is) says c.if-not-branch.false;
      sets = parted.1;
    }

pub returns : goal.returns
returns c =
    bare_answer c.args.scene.leaves.now c.args.scene.rx.now c.args.scene.view.now.bytes _ c.args.range (c.args.range, c.new.result) _ c.requires.bare (ap (λ (b : List Bound). (c.args.range, b)) c.new.ensures)
    (λ e. (sym c.has_focus.ensures ∙ c.if-has_focus.false, all_passed c.args.scene.leaves.now c.args.scene.rx.now c.args.scene.view.now.bytes _ _ _ c.loop-i.invariant.allowed (none_left c.args.children.now c.loop-i.i c.loop-i-test.false)), λ p. refl)
