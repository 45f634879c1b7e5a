use Rattle.std.proofs.Common.{◌≡◌, refl}
use Rattle.range_algebra.proofs.Openings.{branches_left, none_left}
use Rattle.range_algebra.proofs.Allowing.{part_within, part_parted, refused, passed_on, all_passed}
use Rattle.range_algebra.proofs.all.is_allowed.Goals as goal

pub loop-i-init : goal.loop-i-init
loop-i-init c = record { allowed = (λ x. x, λ x. x); parts = c.requires.parts }

pub bounds-parts-i : goal.bounds-parts-i
bounds-parts-i c = part_within c.args.scene.leaves.now c.args.scene.rx.now c.args.scene.view.now.bytes _ _ _ c.loop-i-test.true c.index-children-i.is _ c.loop-i.invariant.parts

pub allows-requires : goal.allows-requires
allows-requires c = record { part = (part_parted c.args.scene.leaves.now c.args.scene.rx.now c.args.scene.view.now.bytes _ _ _ c.loop-i-test.true c.index-children-i.is _ c.index-parts-i.result c.loop-i.invariant.parts c.index-parts-i.is).0; placed = c.requires.placed }

pub returns-then-not-branch : goal.returns-then-not-branch
returns-then-not-branch c =
    (λ e. absurd (cc), λ p. absurd (refused c.args.scene.leaves.now c.args.scene.rx.now c.args.scene.view.now.bytes _ _ _ _ _ _ c.loop-i.invariant.allowed (branches_left c.args.children.now c.loop-i.i c.index-children-i.result c.loop-i-test.true c.index-children-i.is) c.in_ok-allows.ensures c.if-not-branch.true p))

pub loop-i-preserved : goal.loop-i-preserved
loop-i-preserved c = record {
  allowed = passed_on c.args.scene.leaves.now c.args.scene.rx.now c.args.scene.view.now.bytes _ _ _ _ _ _ c.loop-i.invariant.allowed (branches_left c.args.children.now c.loop-i.i c.index-children-i.result c.loop-i-test.true c.index-children-i.is) c.in_ok-allows.ensures c.if-not-branch.false;
  parts = (part_parted c.args.scene.leaves.now c.args.scene.rx.now c.args.scene.view.now.bytes _ _ _ c.loop-i-test.true c.index-children-i.is _ c.index-parts-i.result c.loop-i.invariant.parts c.index-parts-i.is).1;
}

pub returns : goal.returns
returns c = (λ e. all_passed c.args.scene.leaves.now c.args.scene.rx.now c.args.scene.view.now.bytes _ _ _ c.loop-i.invariant.allowed (none_left c.args.children.now c.loop-i.i c.loop-i-test.false), λ a. refl)
