use Rattle.std.proofs.Common.{◌∙◌, List, ℕ, ap, sym, subst}
use Rattle.std.specs.List.{Contains}
use Rattle.node_tree.specs.declared.node.Node.{Node}
use Rattle.tree_match.specs.Checksums.{checksum}
use Rattle.tree_match.specs.Same.{IsKey, place_number}
use Rattle.tree_match.proofs.KeyLaws.{places_more, on_some}
use Rattle.tree_match.proofs.same_kids.key_places.Goals as goal

pub loop-i-preserved : goal.loop-i-preserved
loop-i-preserved c = λ j n lt is.
    let holds = on_some _ _ _ c.in-Some.is c.in_ok-key.ensures in
    let key = c.in-Some.key.now in
    let By : ℕ → ℕ = λ sum. place_number sum c.in-Ok.place in
    let number-is = c.number_of.ensures ∙ ap By c.checksum_of.ensures.sum ∙ ap (place_number (checksum key)) c.in-Ok.ensures.1 in
    let P : List ℕ → Type 0 = λ xs. (k : Node) × IsKey c.args.kind c.args.pattern.now c.args.name.now n k × Contains xs (place_number (checksum k) j) in
    subst P (sym c.in_ok-push.ensures.items) (places_more c.args.kind c.args.pattern.now c.args.name.now c.args.kids.now c.loop-i.places.items c.number_of.result c.loop-i.i c.index-kids-i.result key c.loop-i-test.true c.index-kids-i.is holds number-is c.loop-i.invariant j n lt is)
