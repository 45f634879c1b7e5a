use Rattle.std.proofs.Common.{List, ◌+◌, take, sym, subst}
use Rattle.std.proofs.lemmas.List.{take_all}
use Rattle.std.specs.List.{flat_map}
use Rattle.node_tree.specs.Numbers.{Numbered, pre_at}
use Rattle.node_pool.specs.declared.spot.Spot.{Spot}
use Rattle.node_pool.specs.Spots.{seen, all_seen}
use Rattle.taint_tables.specs.Hulls.{MeetsAll}
use Rattle.taint_tables.proofs.Hulls.{meets_both, tops_more}
use Rattle.taint_tables.proofs.hull.Hull.of.Goals as goal

pub loop-top-preserved : goal.loop-top-preserved
loop-top-preserved c =
    let xs = c.args.tops.now in
    let i = c.loop-top.top-index in
    let P : List Numbered → Type 0 = λ ns. MeetsAll c.with_tree-hull.result ns in
    subst P (sym (tops_more xs i c.top-item.result c.loop-top-test.true c.top-item.is)) (meets_both c.loop-top.hull c.with_tree-hull.result (flat_map pre_at (all_seen (take i xs))) (pre_at (seen c.top-item.result)) c.loop-top.invariant c.with_tree-hull.ensures.grows c.with_tree-hull.ensures.meets)

pub returns : goal.returns
returns c =
    let P : List Spot → Type 0 = λ xs. MeetsAll c.loop-top.hull (flat_map pre_at (all_seen xs)) in
    subst P (take_all c.loop-top.top-index c.args.tops.now c.loop-top-test.false) c.loop-top.invariant
