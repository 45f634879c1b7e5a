use Rattle.std.proofs.Common.{◌∙◌, List, [], ◌∷◌, ◌++◌, refl, sym, ap, subst}
use Rattle.std.specs.Option.{option_copied}
use Rattle.file_parts.specs.declared.joining.PartLeaf.{PartLeaf}
use Rattle.file_parts.specs.Leaves.{AreLeavesOf}
use Rattle.kept_leaves.specs.Found.{seen_found}
use Rattle.kept_leaves.proofs.Finding.{leaves_last, looked_right}
use Rattle.kept_leaves.proofs.Meeting.{on_ok_to}
use Rattle.kept_leaves.proofs.Places.{row, stands, place_within}
use Rattle.kept_leaves.proofs.found.add_leaf.Goals as goal

pub look-requires-clause-at : goal.look-requires-clause-at
look-requires-clause-at c = place_within c.args.leaves.now c.args.found.place c.args.number (seen_found c.args.found) c.args.pattern.now c.requires.place c.requires.number

pub returns : goal.returns
returns c parts are =
    let leaves = c.args.leaves.now in
    let place = c.args.found.place in
    let part = seen_found c.args.found in
    let number = c.args.number in
    let pattern = c.args.pattern.now in
    let kept = c.in-Some.kept.now in
    let numbered = c.requires.number in
    let r = row leaves place number part pattern c.requires.place numbered in
    let looked = c.look.ensures r numbered.key (stands leaves place number part pattern c.requires.place numbered) numbered.found in
    let exact = looked_right leaves c.requires.leaves place number part pattern c.requires.place numbered kept (ap option_copied (sym c.in-Some.is) ∙ looked) in
    let P : List PartLeaf → Type 0 = λ ls. AreLeavesOf pattern (parts ++ part ∷ []) ls in
    on_ok_to _ _ c.push.result (λ e. subst P (sym e) (leaves_last pattern parts c.args.into.now part _ are refl exact)) c.push.ensures.ok
