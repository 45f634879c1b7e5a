use Rattle.std.proofs.Common.{◌≡◌, ◌↔◌, List, sym, subst}
use Rattle.std.specs.Prelude.{IsTrue, IfOk}
use Rattle.tree_match.specs.Members.{Member}
use Rattle.range_algebra.specs.Conditions.{AllowsBy}
use Rattle.range_algebra.specs.Trees.{Branch, branch_of}
use Rattle.range_algebra.specs.Meets.{Allows}
use Rattle.range_algebra.specs.Parts.{IsPart}
use Rattle.range_algebra.proofs.Allowing.{pattern_branch, no_pattern, allows_of, part_ordered, if_ok_says}
use Rattle.range_algebra.proofs.condition.allows.Goals as goal

pub matches-requires : goal.matches-requires
matches-requires c =
    let P : Branch → Type 0 = λ b. IsPart c.args.scene.leaves.now c.args.scene.rx.now c.args.scene.view.now.bytes b c.args.part.now in
    record { part = subst P (pattern_branch _ _ _ _ c.in-MetaPattern.is c.as_str.ensures) c.requires.part }

pub returns-in-MetaPattern : goal.returns-in-MetaPattern
returns-in-MetaPattern c =
    let P : Branch → Type 0 = λ b. IfOk c.matches.result (λ y. IsTrue y ↔ Allows c.args.scene.leaves.now c.args.scene.rx.now c.args.scene.view.now.bytes b c.args.one.now) in
    subst P (sym (pattern_branch _ _ _ _ c.in-MetaPattern.is c.as_str.ensures)) c.matches.ensures

pub allows_by-requires : goal.allows_by-requires
allows_by-requires c = record { ordered = part_ordered c.args.scene.leaves.now c.args.scene.rx.now c.args.scene.view.now.bytes (branch_of c.args.child.now) c.args.part.now _ c.requires.part c.members.ensures; placed = c.requires.placed }

pub returns-in_default : goal.returns-in_default
returns-in_default c =
    let P : List Member → Type 0 = λ ms. AllowsBy c.args.scene.rx.now c.args.scene.view.now.bytes ms c.args.one.now (branch_of c.args.child.now) ↔ Allows c.args.scene.leaves.now c.args.scene.rx.now c.args.scene.view.now.bytes (branch_of c.args.child.now) c.args.one.now in
    if_ok_says _ _ c.allows_by.result (subst P (sym c.members.ensures) (allows_of c.args.scene.leaves.now c.args.scene.rx.now c.args.scene.view.now.bytes (branch_of c.args.child.now) c.args.part.now c.args.one.now c.requires.part (no_pattern c.args.child.now c.in_default.not-MetaPattern))) c.allows_by.ensures
