use Rattle.std.proofs.Common.{◌∙◌, sym, ap, subst}
use Rattle.std.specs.Option.{option_copied}
use Rattle.file_parts.specs.Leaves.{IsLeafIn}
use Rattle.kept_leaves.specs.declared.leaf.KeptLeaf.{KeptLeaf}
use Rattle.kept_leaves.proofs.Finding.{not_false, looked_right}
use Rattle.kept_leaves.proofs.Places.{row, stands}
use Rattle.kept_leaves.proofs.matching.may_have.Goals as goal

pub returns-in-Some : goal.returns-in-Some
returns-in-Some c part pattern at numbered off =
    let leaves = c.args.leaves.now in
    let place = c.args.place in
    let number = c.args.number in
    let kept = c.in-Some.kept.now in
    let r = row leaves place number part pattern at numbered in
    let looked = c.look.ensures r numbered.key (stands leaves place number part pattern at numbered) numbered.found in
    let exact = looked_right leaves c.requires.leaves place number part pattern at numbered kept (ap option_copied (sym c.in-Some.is) ∙ looked) in
    let P : KeptLeaf → Type 0 = λ k. IsLeafIn pattern part k.leaf in
    subst P (c.is_empty.ensures.0 (not_false c.is_empty.result off)) exact
