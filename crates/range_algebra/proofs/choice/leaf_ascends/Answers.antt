use Rattle.std.proofs.Common.{subst, arith}
use Rattle.std.specs.Prelude.{Some}
use Rattle.std.proofs.lemmas.Option.{slice_get_within}
use Rattle.tree_match.specs.declared.leaf.Leaf.{Leaf}
use Rattle.range_algebra.specs.Meets.{InLeaf}
use Rattle.range_algebra.proofs.LeafNames.{among_get}
use Rattle.range_algebra.proofs.choice.leaf_ascends.Goals as goal

pub returns-after-loop-at : goal.returns-after-loop-at
returns-after-loop-at c m h =
    let P : Leaf → Type 0 = λ l. InLeaf (Some l) m in
    let r = among_get _ m (subst P c.in-Full.is h) in
    let lt = slice_get_within _ r.0 m r.1 in
    let past = c.loop-at-test.false in
    let len = c.len-at-end.ensures in
    c.loop-at.invariant r.0 m (omega (arith, lt, past, len)) r.1
