use Rattle.std.proofs.Common.{◌≡◌, map, sym, ◌∙◌}
use Rattle.node_match.proofs.Sets.{adds_none}
use Rattle.range_algebra.specs.Trees.{branch_of, branches_of}
use Rattle.range_algebra.specs.Shown.{Shows}
use Rattle.range_algebra.proofs.Gathering.{shown_allowed}
use Rattle.range_algebra.proofs.all.add_allowed.Goals as goal

pub is_allowed-requires : goal.is_allowed-requires
is_allowed-requires c = record { parts = c.requires.parts; placed = c.requires.placed }

pub returns-then-not-branch : goal.returns-then-not-branch
returns-then-not-branch c =
    adds_none _ (Shows c.args.scene.leaves.now c.args.scene.rx.now c.args.scene.view.now.bytes (branches_of (map branch_of c.args.children.now)) c.args.one.now) (λ m s. (let e = sym (c.in_ok-is_allowed.ensures.1 s.0) ∙ c.if-not-branch.true in cc))

pub returns : goal.returns
returns c = shown_allowed c.args.scene.leaves.now c.args.scene.rx.now c.args.scene.view.now.bytes (branches_of (map branch_of c.args.children.now)) c.args.one.now _ _ (let f = c.in_ok-is_allowed.ensures.0 in f c.if-not-branch.false) _ c.add_shown.ensures
