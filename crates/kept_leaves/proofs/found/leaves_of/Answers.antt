use Rattle.std.proofs.Common.{List, [], map, sym, subst}
use Rattle.std.proofs.lemmas.List.{take_all}
use Rattle.piece_match.proofs.Amongs.{among_at}
use Rattle.file_parts.specs.declared.joining.PartLeaf.{PartLeaf}
use Rattle.file_parts.specs.Leaves.{AreLeavesOf, no_leaf}
use Rattle.kept_leaves.specs.declared.found.FoundPart.{FoundPart}
use Rattle.kept_leaves.specs.Found.{seen_found}
use Rattle.kept_leaves.specs.Opened.{pieces_in}
use Rattle.kept_leaves.proofs.Finding.{found_at, leaves_found}
use Rattle.kept_leaves.proofs.found.leaves_of.Goals as goal

pub loop-one-init : goal.loop-one-init
loop-one-init c = let P : List PartLeaf → Type 0 = λ ls. AreLeavesOf c.args.pattern.now [] ls in subst P (sym c.new-all.ensures) no_leaf

pub add_leaf-requires-clause-place : goal.add_leaf-requires-clause-place
add_leaf-requires-clause-place c =
    let f = c.one-item.result in
    let (parts, are) = c.requires.found in
    found_at c.args.pattern.now (pieces_in c.args.leaves.now) parts c.args.found.now are f (among_at c.args.found.now c.loop-one.one-index f c.loop-one-test.true c.one-item.is)

pub returns : goal.returns
returns c parts are =
    let P : List FoundPart → Type 0 = λ fs. AreLeavesOf c.args.pattern.now (map seen_found fs) c.loop-one.all in
    leaves_found c.args.pattern.now (pieces_in c.args.leaves.now) parts c.args.found.now c.loop-one.all are (subst P (take_all c.loop-one.one-index c.args.found.now c.loop-one-test.false) c.loop-one.invariant)
