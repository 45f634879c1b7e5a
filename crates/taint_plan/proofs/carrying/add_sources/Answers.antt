use Rattle.std.proofs.Common.{◌↔◌, ◌⊎◌, List, ◌+◌, take, subst}
use Rattle.std.proofs.lemmas.List.{take_all}
use Rattle.node_pool.specs.declared.spot.Spot.{Spot}
use Rattle.node_pool.specs.Spots.{seen, all_seen}
use Rattle.graph_form.specs.Sets.{Among}
use Rattle.taint_tables.specs.Numbers.{numbers_of}
use Rattle.taint_plan.specs.RowFacts.{TaintsOne, TaintsHere}
use Rattle.taint_tables.proofs.FactLists.{tainted_more, seen_more}
use Rattle.taint_plan.proofs.carrying.add_sources.Goals as goal

pub loop-spot-preserved : goal.loop-spot-preserved
loop-spot-preserved c spans holds =
    let xs = c.args.spots.now in
    let i = c.loop-spot.spot-index in
    tainted_more (TaintsHere spans (numbers_of c.args.look.census.now) c.args.range) (all_seen (take i xs)) (all_seen (take (i + 1) xs)) (seen c.spot-item.result) c.args.into.now.items c.loop-spot.into.items c.add_source.new.into.items
    (seen_more xs i c.spot-item.result c.loop-spot-test.true c.spot-item.is) (c.loop-spot.invariant spans holds) (c.in_ok-add_source.ensures spans holds)

pub returns : goal.returns
returns c spans holds fact =
    let P : List Spot → Type 0 = λ xs. Among c.loop-spot.into.items fact ↔ (Among c.args.into.now.items fact ⊎ TaintsOne spans (numbers_of c.args.look.census.now) (all_seen xs) c.args.range fact) in
    subst P (take_all c.loop-spot.spot-index c.args.spots.now c.loop-spot-test.false) (c.loop-spot.invariant spans holds fact)
