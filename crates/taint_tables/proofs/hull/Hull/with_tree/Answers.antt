use Rattle.std.proofs.Common.{List, ◌+◌, take, subst, arith}
use Rattle.std.proofs.lemmas.List.{take_all}
use Rattle.node_tree.specs.Numbers.{Numbered, pre_at}
use Rattle.node_pool.specs.Spots.{seen}
use Rattle.taint_tables.specs.Hulls.{MeetsAll}
use Rattle.taint_tables.proofs.Hulls.{meets_more, tree_split, tree_whole}
use Rattle.taint_tables.proofs.hull.Hull.with_tree.Goals as goal

pub loop-further-preserved : goal.loop-further-preserved
loop-further-preserved c =
    let t = seen c.args.top in
    let i = c.loop-further.further in
    let all = c.loop-further.invariant in
    record {
      grows = (omega (arith, all.grows.0, c.with-hull.ensures.grows.0), omega (arith, all.grows.1, c.with-hull.ensures.grows.1));
      meets = meets_more c.loop-further.hull c.with-hull.result (take i (pre_at t)) (take (i + 1) (pre_at t)) (seen c.below.result) (tree_split t (seen c.below.result) i (omega (arith, c.size-further-end.ensures.size, c.loop-further-test.true)) c.below.ensures) all.meets c.with-hull.ensures.grows c.with-hull.ensures.meets;
    }

pub returns-clause-meets : goal.returns-clause-meets
returns-clause-meets c =
    let t = seen c.args.top in
    let P : List Numbered → Type 0 = λ xs. MeetsAll c.loop-further.hull xs in
    subst P (tree_whole t c.loop-further.further (omega (arith, c.size-further-end.ensures.size, c.loop-further-test.false))) c.loop-further.invariant.meets
