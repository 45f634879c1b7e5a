use Rattle.std.proofs.Common.{◌++◌, ap, ◌∙◌}
use Rattle.std.specs.List.{flat_map}
use Rattle.std.proofs.lemmas.List.{take_all}
use Rattle.node_pool.specs.Spots.{seen, all_seen}
use Rattle.point_nodes.proofs.Parts.{flat_more}
use Rattle.taint_tables.specs.Censuses.{texts}
use Rattle.taint_tables.specs.Names.{name_of}
use Rattle.taint_tables.proofs.counting.add_names.Goals as goal

pub loop-spot-preserved : goal.loop-spot-preserved
loop-spot-preserved c = flat_more seen name_of c.args.spots.now c.loop-spot.spot-index c.spot-item.result (texts c.args.into.now) (texts c.loop-spot.into) (texts c.add_name.new.into) c.loop-spot-test.true c.spot-item.is c.loop-spot.invariant c.in_ok-add_name.ensures

pub returns : goal.returns
returns c = c.loop-spot.invariant ∙ ap (λ xs. texts c.args.into.now ++ flat_map name_of (all_seen xs)) (take_all c.loop-spot.spot-index c.args.spots.now c.loop-spot-test.false)
