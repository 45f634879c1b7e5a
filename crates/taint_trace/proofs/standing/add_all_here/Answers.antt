use Rattle.std.proofs.Common.{◌++◌, ap, ◌∙◌}
use Rattle.std.specs.List.{flat_map}
use Rattle.std.proofs.lemmas.List.{take_all}
use Rattle.node_pool.specs.Spots.{seen, all_seen}
use Rattle.point_nodes.proofs.Parts.{flat_more}
use Rattle.taint_tables.specs.Names.{span_here}
use Rattle.taint_trace.proofs.standing.add_all_here.Goals as goal

pub loop-spot-preserved : goal.loop-spot-preserved
loop-spot-preserved c = flat_more seen span_here c.args.spots.now c.loop-spot.spot-index c.spot-item.result c.args.into.now c.loop-spot.into c.add_here.new.into c.loop-spot-test.true c.spot-item.is c.loop-spot.invariant c.in_ok-add_here.ensures

pub returns : goal.returns
returns c = c.loop-spot.invariant ∙ ap (λ xs. c.args.into.now ++ flat_map span_here (all_seen xs)) (take_all c.loop-spot.spot-index c.args.spots.now c.loop-spot-test.false)
